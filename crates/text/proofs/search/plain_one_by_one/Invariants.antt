-- The loop's invariant: no byte before the place passes the test.
use Rattle.std.proofs.Common.{◌≤◌, ◌-◌, not, length}
use Rattle.text.specs.Check.{is_plain}
use Rattle.text.proofs.Blocks.{NoneBefore}
use Rattle.text.proofs.search.plain_one_by_one.Given as goal

abbrev pub invariant-loop-i : goal.invariant-loop-i
invariant-loop-i l = (l.i ≤ length l.s) × NoneBefore (λ b. not (is_plain b)) l.s l.i

abbrev pub decreases-loop-i : goal.decreases-loop-i
decreases-loop-i l = length l.s - l.i
