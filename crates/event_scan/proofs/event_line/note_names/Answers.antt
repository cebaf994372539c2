-- `note_names`: a field's name is noted by its place.
use Rattle.std.proofs.Common.{◌≡◌, ◌<◌, length, refl, arith, sym, ap, ◌∙◌, take}
use lib.ListN.{length-set}
use Rattle.distinct.specs.Distinct.{runs_in}
use Rattle.event_scan.specs.Fields.{fields_in, fields_left}
use Rattle.event_scan.specs.Names.{names_of}
use Rattle.event_scan.specs.Parts.{text_left, size_left, attributes_in}
use Rattle.event_scan.proofs.Places.{up_within, fields_within}
use Rattle.event_scan.proofs.Noted.{placed, name_placed, noted_end, noted_more}
use Rattle.event_scan.proofs.event_line.note_names.Goals as goal

pub returns-in_default : goal.returns-in_default
unfolding names_of
returns-in_default c = λ h. rw (ap fields_in c.in_default.is) refl

pub loop-field-init : goal.loop-field-init
loop-field-init c =
    let e = ap fields_left c.into_iter-field-iterator.ensures.into_iter_gives ∙ ap fields_in c.in-Some.is in
    (e ∙ sym (fields_within c.in-Some.text.now 0 (omega arith)), omega arith, omega arith, refl, λ h. ap (λ fs. names_of (attributes_in fs)) (sym (ap fields_left c.into_iter-field-iterator.ensures.into_iter_gives)))

pub loop-field-preserved : goal.loop-field-preserved
loop-field-preserved c =
    let l = c.loop-field in
    let f = c.in-Some-field.field.now in
    let steps = c.in-Some-field.ensures.steps in
    let p = placed c.in-Some.text.now l.at f _ (sym l.invariant.0 ∙ steps) in
    let bounds = l.invariant in
    let within = up_within 61 f in
    let run = c.run_word.ensures (omega (arith, p.within, c.name_length.ensures)) (omega (arith, c.args.rest.now.short, ap size_left c.in-Some.is)) in
    let long : length c.put_word.new.words ≡ length l.words = ap length c.put_word.ensures ∙ length-set l.words l.n _ in (
      p.rest,
      omega (arith, bounds.1),
      omega (arith, p.within),
      long ∙ bounds.3,
      λ h.
          let lt : l.n < length l.words = omega (arith, long) in
          rw c.put_word.ensures (noted_more _ _ _ _ _ _ _ steps (bounds.4 (omega arith)) _ lt (run ∙ rw c.name_length.ensures (name_placed _ _ _ _ p))),
    )

pub returns : goal.returns
returns c =
    λ h. noted_end _ _ _ _ _ c.in-None.ensures.steps.0 (c.loop-field.invariant.4 h) ∙ ap (λ t. runs_in t (take c.loop-field.n c.loop-field.words)) (sym (ap text_left c.in-Some.is))
