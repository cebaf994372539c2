-- A step is what stands at its offset, while one remains.
use mathlib.Core.Path.{◌∙◌}
use Rattle.compact.specs.View.{tag_step, tag_made, cut_text}
use Rattle.compact.proofs.Steps.{step_there}
use Rattle.compact.proofs.tag_step.Goals as goal

pub returns : goal.returns
unfolding tag_step
returns c = let a = c.args in c.step.ensures ∙ step_there tag_made cut_text a.bytes.now a.offset a.remaining
