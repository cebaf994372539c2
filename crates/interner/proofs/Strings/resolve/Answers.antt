-- `resolve` asks only for handles that are held.
use Rattle.interner.specs.Strings.{span_of}
use borrow.Author.Tests.{lt-ltb, le-ltb}
use Rattle.interner.proofs.Strings.resolve.Goals as goal

pub returns-then-handle-self : goal.returns-then-handle-self
unfolding span_of
returns-then-handle-self c = rw (lt-ltb _ _ c.if-handle-self.true) (rw (c.texts.ensures.spans, c.texts.ensures.bytes) at c.span_at.ensures)

pub returns-else-handle-self : goal.returns-else-handle-self
unfolding span_of
returns-else-handle-self c = rw (le-ltb _ _ c.if-handle-self.false)
