-- The array holds the text of a value that is no longer than a line may be.
use Rattle.reader_texts.proofs.handle_resolved.Goals as goal

pub returns : goal.returns
returns g c =
    λ short serve. rw (c.resolved-text.ensures short) at (c.handle.ensures serve)
