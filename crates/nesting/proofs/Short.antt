-- A text of fewer than six bytes is no name of the document or of a section.
use Prim.Native.Nat.{◌<◌}
use mathlib.Core.Path.{◌≡◌, refl}
use mathlib.Core.Bool.{false}
use mathlib.Core.List.{[], ◌∷◌}
use native.Mathlib.Omega.{arith}
use lib.ListN.{length, drop}
use lib.Dec.{eqb}
use Rattle.base.specs.Ascii.{ascii}
use Rattle.base.specs.Bytes.{Bytes, same}
use Rattle.base.proofs.Split.{both_no_right}
use Rattle.nesting.specs.Name.{spellings, name_in, name_of}

longer : (s t : Bytes) → length s < length t → same s t ≡ false
unfolding same
longer [] [] h = absurd (omega arith)
longer [] (b ∷ t) h = refl
longer (a ∷ s) [] h = refl
longer (a ∷ s) (b ∷ t) h = both_no_right (eqb a b) (longer s t (omega arith))

pub short_name : (s : Bytes) → length s < 6 → name_of s ≡ name_in (drop 4 spellings) s
unfolding name_of spellings name_in
short_name s h =
    rw (longer s (ascii "osmChange") (omega arith), longer s (ascii "create") (omega arith), longer s (ascii "modify") (omega arith), longer s (ascii "delete") (omega arith))
