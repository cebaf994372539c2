-- Row by row: the rows counted and those from the next on are together the list's.
use Prim.Native.Nat.{◌+◌, ◌≤◌}
use mathlib.Core.Path.{◌≡◌}
use lib.ListN.{length}
use Rattle.std.specs.Simd.{first_chunks}
use Rattle.kind_table.specs.Words.{held}
use Rattle.kind_reading.proofs.Walks.{onward}
use Rattle.kind_reading.proofs.listed_count.Given as goal

abbrev pub invariant-loop-words : goal.invariant-loop-words
invariant-loop-words l =
    let ws = l.fn.storage.table.now in
    let n = held ws l.fn.storage.ids in
    (l.words-items ≡ first_chunks 3 n ws)
    × ((l.count ≤ l.words-index) × (l.count + length (onward l.side ws n l.words-index) ≡ length (onward l.side ws n 0)))
