-- What the contracts of the private functions cite: cells of 45 bytes of an arena, and what they tell of where records start.
use Rattle.std.specs.Prelude.{ℕ, ◌+◌, ◌/◌, ◌%◌, ◌<◌, ◌≡◌, List, eqb, length, get_or}
use Rattle.base.specs.Bytes.{Bytes}
use Rattle.kind.specs.declared.Kind.{Kind}
use Rattle.kind_sound.specs.Check.{comes_to}

-- what the cell of an offset holds where a record starts there
abbrev pub cell_of : ℕ → ℕ
cell_of offset = offset % 45 + 1

-- nothing is noted
unfoldable pub Empty : List ℕ → Type 0
Empty cells = (i : ℕ) → get_or cells i 0 ≡ 0

-- of each offset in the bytes that has a cell, the cell tells whether a record starts there
abbrev pub Noted : ℕ → Kind → Bytes → List ℕ → Type 0
Noted strings k s cells = (offset : ℕ) → offset < length s → offset / 45 < length cells → eqb (get_or cells (offset / 45) 0) (cell_of offset) ≡ comes_to strings k s offset offset 0
