-- `TableMut::insert_row` meets its contract.
use Prim.Native.Nat.{◌*◌}
use native.Mathlib.Omega.{arith}
use Rattle.kind_table.proofs.Gaps.{block_lent, gap_filled}
use Rattle.kind_table.proofs.TableMut.insert_row.Goals as goal

pub returns-clause-inserted : goal.returns-clause-inserted
returns-clause-inserted c =
    let a = c.args in
    let s = a.self.now in
    rw (c.store_row.ensures.stored, block_lent s.words.now _ (3 * a.p) (3 * s.count) (omega arith) (omega arith) c.copy_within.ensures.after)
    (gap_filled s.words.now a.p s.count a.row (omega arith) (omega arith))
