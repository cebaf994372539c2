-- Printing piece by piece into lent bytes, with so much room. One walk serves twice: lent no bytes it only measures, and lent the output it writes,
-- so that "19 output shorter than the listing" is known before a byte is written.
use Rattle.std.specs.Prelude.{ℕ, ◌+◌, ◌-◌, cond, List, [], ◌∷◌, ◌++◌, leb, length, None, Option, Some}
use Rattle.base.specs.Bytes.{Bytes}
use Rattle.base.specs.Chars.{horizontal_tab, line_feed}
use Rattle.little.specs.Little.{over}

-- the output, and the room that is left
pub record Printed : Type 0 where
  pub out : Bytes
  pub room : Option ℕ

-- bytes at a place of the output, where they lie within it
unfoldable pub placed_at : Bytes → ℕ → Bytes → Bytes
placed_at out at x = cond (leb (at + length x) (length out)) (over out at x) out

-- one piece behind those before it, of `cap` bytes in all; without room for it nothing more is printed
abbrev pub step_in : ℕ → Bytes → Bytes → Option ℕ → Printed
step_in cap x out (Some r) =
    cond (leb (length x) r) (record { out = placed_at out (cap - r) x; room = Some (r - length x) }) (record { out = out; room = None })
step_in cap x out None = record { out = out; room = None }

unfoldable pub print_step : ℕ → Bytes → Printed → Printed
print_step cap x p = step_in cap x p.out p.room

unfoldable pub print : ℕ → List Bytes → Printed → Printed
print cap [] p = p
print cap (x ∷ xs) p = print cap xs (print_step cap x p)

-- all pieces one after the other
unfoldable pub joined_pieces : List Bytes → Bytes
joined_pieces [] = []
joined_pieces (x ∷ xs) = x ++ joined_pieces xs

-- ---- the pieces of a line

abbrev pub tab : Bytes
tab = horizontal_tab ∷ []

-- each field with a tab before it
unfoldable pub tabs : List Bytes → List Bytes
tabs [] = []
tabs (f ∷ fs) = tab ∷ f ∷ tabs fs

-- a line of fields: the first, the others each after a tab, the line feed
unfoldable pub line_pieces : List Bytes → List Bytes
line_pieces [] = []
line_pieces (f ∷ fs) = f ∷ (tabs fs ++ ((line_feed ∷ []) ∷ []))
