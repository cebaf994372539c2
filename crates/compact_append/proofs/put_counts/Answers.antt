-- The head of a way or a relation is written field after field.
use native.Mathlib.Omega.{arith}
use Rattle.compact.proofs.Holds.{counts_bits}
use Rattle.compact_append.proofs.Writes.{start, field}
use Rattle.compact_append.proofs.put_counts.Goals as goal

pub returns : goal.returns
returns c =
    let c3 = c in
    let c2 = c3 in
    let c1 = c2 in
    let a = c1.args in
    let w1 = field 8 a.id (start a.out.now) c1.put_at.ensures in
    let w2 = field 4 a.count w1 c2.put_at-2.ensures in
    rw (counts_bits a.id a.count a.tags (omega arith)) (field 4 a.tags w2 c3.put_at-3.ensures).is
