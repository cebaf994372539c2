-- The array holds the text of a value that is no longer than a line may be.
use Rattle.reader_parts.proofs.tag_resolved.Goals as goal

pub returns-clause-worked : goal.returns-clause-worked
returns-clause-worked g c =
    λ key value given. rw (c.resolved-text.ensures value) at (c.tag_with.ensures.worked key given)
