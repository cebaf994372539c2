-- `separated`: the six tests are the definition's.
use Rattle.stamp.specs.Stamp.{separated}
use Rattle.base.proofs.Tests.{and_both}
use Rattle.stamp.proofs.separated.Goals as goal

pub returns : goal.returns
unfolding separated
returns c = simp and_both
