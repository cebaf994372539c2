-- The walk over rows and kinds: a row's line, the rows of a kind, and what is lent of an arena.
use Prim.Native.Nat.{ℕ, suc, ◌+◌, ◌-◌, ◌<◌, ◌≤◌, min}
use mathlib.Core.Path.{◌≡◌, ◌∙◌}
use mathlib.Core.List.{List, [], ◌∷◌, ◌++◌}
use native.Mathlib.Omega.{arith}
use lib.ListN.{length, take, drop, length-drop, drop_of_length-le}
use lib.Seq.{take_all}
use Rattle.base.specs.Bytes.{Bytes}
use Rattle.base.proofs.Split.{by_le}
use Rattle.kind.specs.declared.Kind.{Kind}
use Rattle.kind_table.specs.Words.{row_at, rows_from, rows_of}
use Rattle.print.specs.Print.{tabs, line_pieces}
use Rattle.print.specs.Printer.{Prints}
use Rattle.print.specs.declared.Printer.{Printer}
use Rattle.print.proofs.Walks.{Walk, begun}
use Rattle.print.proofs.Pieces.{then_printed}
use Rattle.listing_rows.specs.Lines.{row_fields_at, row_pieces}

-- ---- what is lent of an arena

-- the bytes from an offset on, or none
pub view_from : (arena : Bytes) (offset at : ℕ) → at ≡ min offset (length arena) → take (length arena - at) (drop at arena) ≡ drop offset arena
view_from arena offset at e =
    take_all (length arena - at) (drop at arena) (omega (arith, length-drop at arena))
    ∙ by_le offset (length arena)
    (λ l. let f : at ≡ offset = omega arith in rw f)
    (λ l. rw (drop_of_length-le arena {i = at} (omega arith), drop_of_length-le arena {i = offset} (omega arith)))

-- ---- a line

pub line_printed : {p q r t : Printer} (k i s v : Bytes) (ls : List Bytes) → Prints (k ∷ tabs (i ∷ s ∷ v ∷ [])) p q → Prints (tabs ls) q r → Prints ((10 ∷ []) ∷ []) r t
    → Prints (line_pieces (k ∷ i ∷ s ∷ v ∷ ls)) p t
unfolding line_pieces tabs
line_printed k i s v ls e1 e2 e3 = then_printed e1 (then_printed e2 e3)

-- ---- row by row

module _ (f : ℕ → Bytes) (k : Kind) (arena : Bytes) (table : List ℕ) (n : ℕ) where
  -- what is still to print, from the i-th row on
  pub rows_next : (i : ℕ) → i < n
      → row_pieces f k arena (rows_from table i (n - i)) ≡ line_pieces (row_fields_at f k arena (row_at table i)) ++ row_pieces f k arena (rows_from table (i + 1) (n - (i + 1)))
  unfolding rows_from row_pieces
  rows_next i h =
      let d : n - i ≡ suc (n - (i + 1)) = omega arith in
      let g : suc i ≡ i + 1 = omega arith in
      rw (d, g)

  pub rows_start : (p : Printer) → Walk (row_pieces f k arena (rows_of table n)) (row_pieces f k arena (rows_from table 0 (n - 0))) p p
  unfolding rows_of
  rows_start p = let d : n - 0 ≡ n = omega arith in rw d (begun _ p)

  pub rows_end : (i : ℕ) → n ≤ i → row_pieces f k arena (rows_from table i (n - i)) ≡ []
  unfolding rows_from row_pieces
  rows_end i h = let d : n - i ≡ 0 = omega arith in rw d
