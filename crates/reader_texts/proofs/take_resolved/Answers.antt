-- The array holds the text of a value that is no longer than a line may be.
use Rattle.reader_texts.proofs.take_resolved.Goals as goal

pub returns-clause-taken : goal.returns-clause-taken
returns-clause-taken g c =
    λ short serve. rw (c.resolved-text.ensures short) at (c.intern.ensures.done serve)
