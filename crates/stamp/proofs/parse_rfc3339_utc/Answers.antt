-- `parse_rfc3339_utc`: 20 bytes with the separators go on to their fields; any other text is refused.
use Rattle.std.proofs.Common.{length, sym, ap, ◌∙◌}
use Rattle.stamp.specs.Stamp.{stamp_of}
use Rattle.stamp.proofs.Answering.{of_shape, not_separated, not_twenty}
use Rattle.stamp.proofs.parse_rfc3339_utc.Goals as goal

pub returns-in_err-text : goal.returns-in_err-text
returns-in_err-text c = c.from_residual.ensures ∙ sym (not_twenty _ c.in_err-text.ensures.cases)

pub returns-then-separated : goal.returns-then-separated
returns-then-separated c =
    let whole = c.in_ok-text.ensures.cases in
    c.accepted.ensures ∙ sym (of_shape _ (ap length whole.same ∙ whole.long) (sym c.separated.ensures ∙ c.if-separated.true)) ∙ ap stamp_of whole.same

pub returns : goal.returns
returns c =
    let whole = c.in_ok-text.ensures.cases in
    sym (not_separated _ (ap length whole.same ∙ whole.long) (sym c.separated.ensures ∙ c.if-separated.false)) ∙ ap stamp_of whole.same
