-- `attribute_at`: the first field from the place on, if there is one.
use Rattle.std.proofs.Common.{arith, sym, ◌∙◌}
use Rattle.event_scan.proofs.Places.{up_within}
use Rattle.event_scan.proofs.Noted.{placed}
use Rattle.event_scan.proofs.Valued.{attribute_none, attribute_here}
use Rattle.event_scan.proofs.located.attribute_at.Goals as goal

pub returns-in_err-field : goal.returns-in_err-field
returns-in_err-field c = c.from_residual.ensures ∙ attribute_none _ _ (sym c.behind-fields.ensures ∙ c.in_err-field.ensures.steps.0)

pub overflow_add-result : goal.overflow_add-result
overflow_add-result c =
    let f = c.in_ok-field.field.now in
    let p = placed c.args.text.now c.args.at f _ (sym c.behind-fields.ensures ∙ c.in_ok-field.ensures.steps) in
    omega (arith, p.within, up_within 61 f, c.name_length.ensures)

pub overflow_add-result-2 : goal.overflow_add-result-2
overflow_add-result-2 c =
    let p = placed c.args.text.now c.args.at c.in_ok-field.field.now _ (sym c.behind-fields.ensures ∙ c.in_ok-field.ensures.steps) in
    omega (arith, p.within)

pub returns : goal.returns
returns c = rw c.name_length.ensures (attribute_here _ _ _ _ (sym c.behind-fields.ensures ∙ c.in_ok-field.ensures.steps))
