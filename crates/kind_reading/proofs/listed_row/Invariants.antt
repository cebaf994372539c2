-- Row by row: the row of the number on the list is that of what is left of it among the rows from the next on.
use mathlib.Core.Path.{◌≡◌}
use Rattle.std.specs.Simd.{first_chunks}
use Rattle.kind_table.specs.Words.{held}
use Rattle.kind_reading.specs.Listed.{nth}
use Rattle.kind_reading.proofs.Walks.{onward}
use Rattle.kind_reading.proofs.listed_row.Given as goal

abbrev pub invariant-loop-words : goal.invariant-loop-words
invariant-loop-words l =
    let ws = l.fn.storage.table.now in
    let n = held ws l.fn.storage.ids in
    (l.words-items ≡ first_chunks 3 n ws)
    × (nth (onward l.side ws n l.words-index) l.left ≡ nth (onward l.side ws n 0) l.n)
