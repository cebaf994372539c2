-- `few_stand`: the field at hand has a name that is new, or it has none.
use Rattle.std.proofs.Common.{◌<◌, length, refl, arith, sym, ap, ◌∙◌}
use lib.ListN.{length-set}
use Rattle.event.specs.Event.{attrs_of}
use Rattle.event_scan.specs.Fields.{fields_left}
use Rattle.event_scan.proofs.Standing.{stand_after, stand_first, stand_ends, few_on, few_stops, names_more}
use Rattle.event_scan.proofs.event_line.few_stand.Goals as goal

pub loop-field-init : goal.loop-field-init
loop-field-init c =
    (refl, omega arith, ap (λ f. stand_after _ (attrs_of (fields_left f))) c.into_iter-field-iterator.ensures.into_iter_gives ∙ stand_first (attrs_of (fields_left c.args.rest.now)))

pub returns-in_default : goal.returns-in_default
returns-in_default c =
    sym (few_stops _ _ _ _ c.in-Some.ensures.steps c.in_default.ensures) ∙ c.loop-field.invariant.2

pub loop-field-preserved : goal.loop-field-preserved
loop-field-preserved c =
    let l = c.loop-field in
    let h : l.n < length l.names = omega (arith, l.invariant.0, l.invariant.1) in (
      length-set l.names l.n _ ∙ l.invariant.0,
      omega arith,
      ap (λ k. stand_after k (attrs_of (fields_left c.next.new.self))) (names_more l.names l.n _ h)
          ∙ few_on _ _ _ _ c.in-Some.ensures.steps _ c.in-Some-new_name.ensures
          ∙ l.invariant.2,
    )

pub returns : goal.returns
returns c = sym (stand_ends _ _ c.in-None.ensures.steps.0) ∙ c.loop-field.invariant.2
