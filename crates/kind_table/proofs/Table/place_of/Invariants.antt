-- `Table::place_of` meets its contract: the search of all rows has come to those from `lo` to `hi`.
use Prim.Native.Nat.{◌≤◌, ◌-◌}
use Rattle.kind_table.specs.Words.{held}
use Rattle.kind_table.proofs.Halves.{Halving}
use Rattle.kind_table.proofs.Table.place_of.Given as goal

abbrev pub invariant-loop-lo : goal.invariant-loop-lo
invariant-loop-lo l =
    let n = held l.fn.self.words.now l.fn.self.count in
    (l.lo ≤ l.hi) × ((l.hi ≤ n) × Halving l.fn.self.words.now l.rank n l.lo l.hi)

abbrev pub decreases-loop-lo : goal.decreases-loop-lo
decreases-loop-lo l = l.hi - l.lo
