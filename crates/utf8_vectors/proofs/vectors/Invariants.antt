-- There are no more lines than bytes that were passed, and no more mismatches than lines.
use Rattle.std.proofs.Common.{length, ◌+◌, ◌≤◌}
use Rattle.utf8_vectors.proofs.vectors.Given as goal

abbrev pub invariant-loop-rest : goal.invariant-loop-rest
invariant-loop-rest g l = (l.tally.vectors + length l.rest ≤ length l.input) × (l.tally.mismatches ≤ l.tally.vectors)

abbrev pub decreases-loop-rest : goal.decreases-loop-rest
decreases-loop-rest g l = length l.rest
