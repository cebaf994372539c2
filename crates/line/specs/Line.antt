-- Document 01, event lines and the listing: fields parted by tabs, a line ended by a line feed.
use Rattle.std.specs.Prelude.{ℕ, Bool, cond, not, List, [], ◌∷◌, ◌++◌, eqb}
use Rattle.base.specs.Bytes.{Bytes, all}
use Rattle.base.specs.Chars.{horizontal_tab, line_feed}
use Rattle.text.specs.Escape.{breaks}

-- a field of a line holds no tab, line feed or carriage return
unfoldable pub plain_field : Bytes → Bool
plain_field f = all (λ b. not (breaks b)) f

-- a byte before the first of some fields
unfoldable pub onto : ℕ → List Bytes → List Bytes
onto b [] = (b ∷ []) ∷ []
onto b (f ∷ fs) = (b ∷ f) ∷ fs

-- the fields that tabs part; there is at least one
unfoldable pub fields : Bytes → List Bytes
fields [] = [] ∷ []
fields (b ∷ bs) = cond (eqb b horizontal_tab) ([] ∷ fields bs) (onto b (fields bs))

-- fields with a tab between each two
unfoldable pub tabbed : List Bytes → Bytes
tabbed [] = []
tabbed (f ∷ []) = f
tabbed (f ∷ g ∷ fs) = f ++ (horizontal_tab ∷ tabbed (g ∷ fs))

-- a line of fields
unfoldable pub line : List Bytes → Bytes
line fs = tabbed fs ++ (line_feed ∷ [])
