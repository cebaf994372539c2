-- `text::is_text` meets its contract: plain bytes are text, and of other bytes the walk tells.
use mathlib.Core.Path.{sym, ◌∙◌}
use Rattle.text.proofs.PlainBytes.{plain_text}
use Rattle.text.proofs.is_text.Goals as goal

pub returns-then-plain : goal.returns-then-plain
returns-then-plain c = c.if-plain.true ∙ sym (plain_text _ (sym c.plain.ensures ∙ c.if-plain.true))
