-- A step is what stands at its offset, while one remains.
use mathlib.Core.Path.{◌∙◌}
use Rattle.compact.specs.Cut.{cut_member}
use Rattle.compact.specs.View.{member_step, member_made}
use Rattle.compact.proofs.Steps.{step_there}
use Rattle.compact.proofs.member_step.Goals as goal

pub returns : goal.returns
unfolding member_step
returns c = let a = c.args in c.step.ensures ∙ step_there member_made cut_member a.bytes.now a.offset a.remaining
