-- `legal_line`: text, and no carriage return.
use Rattle.base.specs.Bytes.{both}
use Rattle.event.specs.Event.{legal_line}
use Rattle.event_scan.proofs.legal_line.Goals as goal

pub returns-then-is_text : goal.returns-then-is_text
unfolding legal_line both
returns-then-is_text c = rw (c.lacks.ensures, ← c.is_text.ensures, c.if-is_text.true)

pub returns : goal.returns
unfolding legal_line both
returns c = rw (← c.is_text.ensures, c.if-is_text.false)
