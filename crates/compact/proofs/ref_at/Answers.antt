-- A ref is read at its place.
use Rattle.compact.specs.View.{ref_at}
use Rattle.compact.proofs.ref_at.Goals as goal

pub returns : goal.returns
unfolding ref_at
returns c = c.get_u64.ensures
