-- The iterator begins at the place of the first tag.
use Rattle.compact.specs.Tags.{tags_of}
use Rattle.compact.proofs.CompactTagIter.of.Goals as goal

pub returns : goal.returns
unfolding tags_of
returns c = rw (← c.tag_place-place.ensures)
