-- `all_right`: the field at hand is an attribute, or it is not.
use Rattle.std.proofs.Common.{sym, ◌∙◌, ap, not}
use Rattle.event_scan.proofs.Standing.{right_ends, right_on, right_stops, name_there}
use Rattle.event_scan.proofs.event_line.all_right.Goals as goal

pub returns-then-is_none : goal.returns-then-is_none
returns-then-is_none c =
    let n = name_there _ _ c.attribute_name.ensures in
    right_stops _ _ _ c.in-Some.ensures.steps (sym n ∙ c.is_none.ensures ∙ ap not c.if-is_none.true) ∙ c.loop-field.invariant

pub loop-field-preserved : goal.loop-field-preserved
loop-field-preserved c =
    let n = name_there _ _ c.attribute_name.ensures in
    right_on _ _ _ c.in-Some.ensures.steps (sym n ∙ c.is_none.ensures ∙ ap not c.if-is_none.false) ∙ c.loop-field.invariant

pub returns : goal.returns
returns c = right_ends _ c.in-None.ensures.steps.0 ∙ c.loop-field.invariant
