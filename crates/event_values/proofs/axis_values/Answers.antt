-- `axis_values`: one of the two names is found first, and the other one behind it; or neither is.
use Rattle.std.proofs.Common.{◌≡◌, true, sym, refl, ap, ◌∙◌}
use Rattle.std.specs.Prelude.{option_map}
use Rattle.base.specs.Bytes.{same}
use Rattle.base.proofs.Equal.{equal}
use Rattle.event_scan.specs.Piece.{value_text}
use Rattle.event_scan.proofs.Parts.{value_nowhere, value_here, value_behind, value_text_of}
use Rattle.event_values.proofs.Values.{text_same, whole_alone, degrees_alone}
use Rattle.event_values.proofs.axis_values.Goals as goal

pub loop-attribute-init : goal.loop-attribute-init
loop-attribute-init g c = (refl, refl)

pub loop-attribute-preserved : goal.loop-attribute-preserved
loop-attribute-preserved g c =
    let i = c.loop-attribute.invariant in
    let s = c.in-Some.ensures.steps in
    (value_behind _ _ _ s _ (sym (equal _ _ c.eq.ensures) ∙ c.if-eq.false) ∙ i.0, value_behind _ _ _ s _ (sym (equal _ _ c.eq-in-Some.ensures) ∙ c.if-eq-2.false) ∙ i.1)

pub returns-then-eq : goal.returns-then-eq
returns-then-eq g c =
    let i = c.loop-attribute.invariant in
    let s = c.in-Some.ensures.steps in
    let w = c.whole_name-whole_name in
    let d = c.degrees_name-degrees_name in
    let x = c.in-Some.attribute.name.now in
    let t : same w.result.now x ≡ true = sym (equal _ _ c.eq.ensures) ∙ c.if-eq.true in
    let n = whole_alone c.args.axis w.ensures d.ensures x t in
    record {
      whole = rw (← w.ensures) (ap (option_map value_text) (value_here _ _ _ s w.result.now t ∙ i.0) ∙ sym (value_text_of _ _));
      degrees = rw (← d.ensures) (c.value_of.ensures.text ∙ text_same d.result.now _ _ (value_behind _ _ _ s d.result.now n ∙ i.1));
    }

pub returns-then-eq-2 : goal.returns-then-eq-2
returns-then-eq-2 g c =
    let i = c.loop-attribute.invariant in
    let s = c.in-Some.ensures.steps in
    let w = c.whole_name-whole_name in
    let d = c.degrees_name-degrees_name in
    let x = c.in-Some.attribute.name.now in
    let t : same d.result.now x ≡ true = sym (equal _ _ c.eq-in-Some.ensures) ∙ c.if-eq-2.true in
    let n = degrees_alone c.args.axis w.ensures d.ensures x t in
    record {
      whole = rw (← w.ensures) (c.value_of-then-eq-2.ensures.text ∙ text_same w.result.now _ _ (value_behind _ _ _ s w.result.now n ∙ i.0));
      degrees = rw (← d.ensures) (ap (option_map value_text) (value_here _ _ _ s d.result.now t ∙ i.1) ∙ sym (value_text_of _ _));
    }

pub returns : goal.returns
returns g c =
    let i = c.loop-attribute.invariant in
    let w = c.whole_name-whole_name in
    let d = c.degrees_name-degrees_name in
    record {
      whole = rw (← w.ensures) (ap (option_map value_text) (sym (value_nowhere w.result.now _ c.in_default.ensures.steps.0) ∙ i.0) ∙ sym (value_text_of _ _));
      degrees = rw (← d.ensures) (ap (option_map value_text) (sym (value_nowhere d.result.now _ c.in_default.ensures.steps.0) ∙ i.1) ∙ sym (value_text_of _ _));
    }
