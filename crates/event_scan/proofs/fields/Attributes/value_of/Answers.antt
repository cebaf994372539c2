-- `value_of`: the first attribute of the name decides; the text of its value is that of the name.
use Rattle.std.proofs.Common.{sym, ap, ◌∙◌}
use Rattle.std.specs.Prelude.{option_map}
use Rattle.event_scan.specs.Piece.{value_text}
use Rattle.event_scan.proofs.Parts.{value_nowhere, value_here, value_behind, value_text_of}
use Rattle.event_scan.proofs.fields.Attributes.value_of.Goals as goal

pub returns-then-equal : goal.returns-then-equal
returns-then-equal g c =
    let found = value_here _ _ _ c.in-Some.ensures.steps c.args.name.now (sym c.equal.ensures ∙ c.if-equal.true) ∙ c.loop-attribute.invariant in
    record { written = found; text = ap (option_map value_text) found ∙ sym (value_text_of _ _) }

pub loop-attribute-preserved : goal.loop-attribute-preserved
loop-attribute-preserved g c =
    value_behind _ _ _ c.in-Some.ensures.steps c.args.name.now (sym c.equal.ensures ∙ c.if-equal.false)
    ∙ c.loop-attribute.invariant

pub returns : goal.returns
returns g c =
    let found = sym (value_nowhere c.args.name.now _ c.in_default.ensures.steps.0) ∙ c.loop-attribute.invariant in
    record { written = found; text = ap (option_map value_text) found ∙ sym (value_text_of _ _) }
