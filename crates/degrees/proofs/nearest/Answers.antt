-- `nearest`: the size is rounded, the sign stays.
use Rattle.degrees.proofs.Sizes.{nearest_minus, nearest_plus}
use Rattle.degrees.proofs.nearest.Goals as goal

pub returns-then-exact : goal.returns-then-exact
returns-then-exact c = rw c.if-exact.true (nearest_minus c.args.exact.size c.requires)

pub returns-else-exact : goal.returns-else-exact
returns-else-exact c = rw c.if-exact.false (nearest_plus c.args.exact.size c.requires)
