-- The names of attributes.
use Rattle.std.specs.Prelude.{Bool, false, cond, List, [], ◌∷◌, map, None, Option, Some}
use Rattle.std.specs.Borrow.{Bor}
use Rattle.base.specs.Bytes.{Bytes, either, same}
use Rattle.event.specs.Event.{Attr}

unfoldable pub names_of : List Attr → List Bytes
names_of [] = []
names_of (a ∷ attrs) = a.name ∷ names_of attrs

-- the texts of slices
abbrev pub texts_of : List (Bor Bytes) → List Bytes
texts_of names = map (λ (n : Bor Bytes). n.now) names

-- a name is one of some
unfoldable pub among : Bytes → List Bytes → Bool
among n [] = false
among n (k ∷ ks) = either (same k n) (among n ks)

-- the name of an attribute, if there is one and it is none of some names
abbrev pub new_name : Option Attr → List Bytes → Option Bytes
new_name None ks = None
new_name (Some a) ks = cond (among a.name ks) None (Some a.name)
