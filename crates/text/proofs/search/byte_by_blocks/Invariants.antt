-- The loop's invariant: the byte does not stand before the place.
use Rattle.std.proofs.Common.{◌-◌, ◌+◌, ◌<◌, eqb}
use Rattle.text.proofs.Blocks.{NoneBefore}
use Rattle.text.proofs.search.byte_by_blocks.Given as goal

abbrev pub invariant-loop-at : goal.invariant-loop-at
invariant-loop-at g l = (l.at < l.last + g.row.N) × NoneBefore (λ b. eqb b l.byte) l.s l.at

abbrev pub decreases-loop-at : goal.decreases-loop-at
decreases-loop-at g l = l.last - l.at
