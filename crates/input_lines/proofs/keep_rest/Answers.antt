use native.Mathlib.Omega.{arith}
use Rattle.input_lines.proofs.Places.{kept_none, kept_front}
use Rattle.input_lines.proofs.keep_rest.Goals as goal

pub returns-then-end-from : goal.returns-then-end-from
returns-then-end-from c = kept_none _ _ _ (omega (arith, c.min-end.ensures))

pub returns : goal.returns
returns c = rw c.copy_within.ensures.after (kept_front _ _ _ _ c.min-end.ensures (omega arith))
