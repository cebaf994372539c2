-- `value_at`: the field at hand has the name, or those behind it decide.
use Rattle.std.proofs.Common.{arith, sym, ◌∙◌}
use lib.Seq.{length-take-le}
use Rattle.event_scan.proofs.Places.{up_within}
use Rattle.event_scan.proofs.Noted.{placed}
use Rattle.event_scan.proofs.Valued.{value_none, value_got, value_past}
use Rattle.event_scan.proofs.located.value_at.Goals as goal

pub slice_bounds-equal-end : goal.slice_bounds-equal-end
slice_bounds-equal-end c =
    let f = c.in-Some.field.now in
    let n = c.name_length-n in
    sym (length-take-le n.result f (omega (arith, n.ensures, up_within 61 f)))

pub overflow_add-result : goal.overflow_add-result
overflow_add-result c =
    let f = c.in-Some.field.now in
    let p = placed c.args.text.now c.loop-field.place f _ (sym c.loop-field.invariant.0 ∙ c.in-Some.ensures.steps) in
    omega (arith, p.within, up_within 61 f, c.name_length-n.ensures)

pub overflow_add-result-then-equal : goal.overflow_add-result-then-equal
overflow_add-result-then-equal c =
    let f = c.in-Some.field.now in
    let p = placed c.args.text.now c.loop-field.place f _ (sym c.loop-field.invariant.0 ∙ c.in-Some.ensures.steps) in
    omega (arith, p.within, up_within 61 f, c.name_length-n.ensures)

pub overflow_add-result-then-equal-2 : goal.overflow_add-result-then-equal-2
overflow_add-result-then-equal-2 c =
    let p = placed c.args.text.now c.loop-field.place c.in-Some.field.now _ (sym c.loop-field.invariant.0 ∙ c.in-Some.ensures.steps) in
    omega (arith, p.within)

pub returns-then-equal : goal.returns-then-equal
returns-then-equal c =
    let e = sym c.loop-field.invariant.0 ∙ c.in-Some.ensures.steps in
    let h = rw c.name_length-n.ensures at (sym c.equal.ensures ∙ c.if-equal.true) in
    rw c.name_length-n.ensures (value_got c.args.text.now c.loop-field.place c.args.name.now c.in-Some.field.now _ e h ∙ c.loop-field.invariant.1)

pub overflow_add-place-in-loop-field : goal.overflow_add-place-in-loop-field
overflow_add-place-in-loop-field c =
    let p = placed c.args.text.now c.loop-field.place c.in-Some.field.now _ (sym c.loop-field.invariant.0 ∙ c.in-Some.ensures.steps) in
    omega (arith, p.within)

pub loop-field-preserved : goal.loop-field-preserved
loop-field-preserved c =
    let e = sym c.loop-field.invariant.0 ∙ c.in-Some.ensures.steps in
    let h = rw c.name_length-n.ensures at (sym c.equal.ensures ∙ c.if-equal.false) in (
      (placed c.args.text.now c.loop-field.place c.in-Some.field.now _ e).rest,
      value_past c.args.text.now c.loop-field.place c.args.name.now c.in-Some.field.now _ e h ∙ c.loop-field.invariant.1,
    )

pub returns : goal.returns
returns c = value_none c.args.text.now c.loop-field.place c.args.name.now (sym c.loop-field.invariant.0 ∙ c.in-None.ensures.steps.0) ∙ c.loop-field.invariant.1
