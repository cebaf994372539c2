-- `version_floor::higher_of` meets its contract.
use mathlib.Core.Path.{◌∙◌}
use Rattle.version_floor.proofs.Versions.{max_higher}
use Rattle.version_floor.proofs.higher_of.Goals as goal

pub returns : goal.returns
returns c = c.max.ensures ∙ max_higher c.args.a c.args.b
