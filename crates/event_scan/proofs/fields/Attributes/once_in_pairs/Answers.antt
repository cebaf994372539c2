-- `once_in_pairs`: a name is among those behind it, or it is not.
use Rattle.std.proofs.Common.{map, sym, ap, ◌∙◌}
use Rattle.event_scan.specs.Parts.{with_text}
use Rattle.event_scan.specs.Fields.{text_written}
use Rattle.event_scan.proofs.Parts.{once_ends, once_stops, once_on, named_found}
use Rattle.event_scan.proofs.fields.Attributes.once_in_pairs.Goals as goal

pub returns-then-is_some : goal.returns-then-is_some
returns-then-is_some g c =
    let n = named_found text_written _ _ _ c.value_of.ensures.text in
    once_stops _ _ _ (ap (map with_text) c.in-Some.ensures.steps) (sym n ∙ sym c.is_some.ensures ∙ c.if-is_some.true) ∙ c.loop-attribute.invariant

pub loop-attribute-preserved : goal.loop-attribute-preserved
loop-attribute-preserved g c =
    let n = named_found text_written _ _ _ c.value_of.ensures.text in
    once_on _ _ _ (ap (map with_text) c.in-Some.ensures.steps) (sym n ∙ sym c.is_some.ensures ∙ c.if-is_some.false) ∙ c.loop-attribute.invariant

pub returns : goal.returns
returns g c = sym (once_ends _ (ap (map with_text) c.in_default.ensures.steps.0)) ∙ c.loop-attribute.invariant
