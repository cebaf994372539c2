-- The loop's invariant: every byte before the place is plain.
use Rattle.std.proofs.Common.{◌-◌, ◌+◌, ◌<◌, not}
use Rattle.text.specs.Check.{is_plain}
use Rattle.text.proofs.Blocks.{NoneBefore}
use Rattle.text.proofs.search.plain_by_blocks.Given as goal

abbrev pub invariant-loop-at : goal.invariant-loop-at
invariant-loop-at g l = (l.at < l.last + g.row.N) × NoneBefore (λ b. not (is_plain b)) l.s l.at

abbrev pub decreases-loop-at : goal.decreases-loop-at
decreases-loop-at g l = l.last - l.at
