-- A step is what stands at its offset, while one remains.
use mathlib.Core.Path.{◌∙◌}
use Rattle.compact.specs.Cut.{cut_i64}
use Rattle.compact.specs.View.{ref_step, ref_made}
use Rattle.compact.proofs.Steps.{step_there}
use Rattle.compact.proofs.ref_step.Goals as goal

pub returns : goal.returns
unfolding ref_step
returns c = let a = c.args in c.step.ensures ∙ step_there ref_made cut_i64 a.bytes.now a.offset a.remaining
