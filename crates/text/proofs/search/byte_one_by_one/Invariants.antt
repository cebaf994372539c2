-- The loop's invariant: no byte before the place passes the test.
use Rattle.std.proofs.Common.{◌≤◌, ◌-◌, eqb, length}
use Rattle.text.proofs.Blocks.{NoneBefore}
use Rattle.text.proofs.search.byte_one_by_one.Given as goal

abbrev pub invariant-loop-i : goal.invariant-loop-i
invariant-loop-i l = (l.i ≤ length l.s) × NoneBefore (λ b. eqb b l.byte) l.s l.i

abbrev pub decreases-loop-i : goal.decreases-loop-i
decreases-loop-i l = length l.s - l.i
