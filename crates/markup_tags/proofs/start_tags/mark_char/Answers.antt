-- `start_tags::mark_char`: each mark has its character.
use Rattle.markup_tags.proofs.start_tags.mark_char.Goals as goal

pub returns-in-Double : goal.returns-in-Double
returns-in-Double c = rw c.in-Double.is

pub returns-in-Single : goal.returns-in-Single
returns-in-Single c = rw c.in-Single.is
