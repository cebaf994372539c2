use mathlib.Core.Path.{refl, sym, ◌∙◌, ap}
use native.Mathlib.Omega.{arith}
use Rattle.base.specs.Bytes.{both, either}
use Rattle.text.specs.Char.{from_to, xml_char}
use Rattle.text.specs.Check.{class_of, Starting}
use Rattle.text.proofs.Table.{class_at}
use Rattle.text.proofs.Theorem.{turn_ends, turn_within, turn_goes, turn_stops}
use Rattle.text.proofs.Classes.{at_1}
use Rattle.text.proofs.walk.Goals as goal

pub loop-at-init : goal.loop-at-init
unfolding class_of xml_char from_to both either
loop-at-init c = (omega arith, (refl, record { size = refl; test = refl }))

pub loop-at-preserved-then-k-eq1 : goal.loop-at-preserved-then-k-eq1
loop-at-preserved-then-k-eq1 c =
    let s = c.args.s.now in
    let at = c.loop-at.at in
    let k = class_at c.loop-at.invariant.1.1 c.from.result (omega arith) ∙ ap class_of c.from.ensures in
    let h : Starting s at _ = record { inside = omega arith; class = k } in
    (omega arith, (turn_goes s at (sym (at_1 h c.if-k-eq1.true)) (omega arith) ∙ c.loop-at.invariant.1.0, c.loop-at.invariant.1.1))

pub long-requires-clause-starting : goal.long-requires-clause-starting
long-requires-clause-starting c =
    record { inside = omega arith; class = class_at c.loop-at.invariant.1.1 c.from.result (omega arith) ∙ ap class_of c.from.ensures }

pub returns-in_default : goal.returns-in_default
returns-in_default c = sym (turn_stops c.args.s.now c.loop-at.at (omega arith) c.in_default.ensures) ∙ c.loop-at.invariant.1.0

pub overflow_add-at-in-loop-at : goal.overflow_add-at-in-loop-at
overflow_add-at-in-loop-at c = omega (arith, turn_within c.args.s.now c.loop-at.at c.in-Some.ensures.1 (omega arith))

pub loop-at-preserved : goal.loop-at-preserved
loop-at-preserved c =
    let e = c.in-Some.ensures in
    let s = c.args.s.now in
    let at = c.loop-at.at in
    (turn_within s at e.1 (omega arith), (turn_goes s at e.1 e.0 ∙ c.loop-at.invariant.1.0, c.loop-at.invariant.1.1))

pub returns : goal.returns
returns c = sym (turn_ends c.args.s.now c.loop-at.at (omega arith)) ∙ c.loop-at.invariant.1.0
