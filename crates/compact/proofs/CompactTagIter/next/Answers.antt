-- The iterator steps as the walk over tags does.
use Rattle.compact.specs.Tags.{tag_next}
use Rattle.compact.proofs.CompactTagIter.next.Goals as goal

pub returns : goal.returns
unfolding tag_next
returns c = rw (← c.next-step.ensures)
