-- The next field goes to the first tab, or is the last one.
use Rattle.std.proofs.Common.{length, arith, sym, ap, ◌∙◌}
use Rattle.event_scan.specs.Fields.{fields_in}
use Rattle.event_scan.specs.Parts.{size_left}
use Rattle.event_scan.proofs.Parts.{fields_by, fields_are, behind_short}
use Rattle.event_scan.proofs.fields.FieldsIterator.next.Goals as goal

pub returns-in-Some-clause-steps : goal.returns-in-Some-clause-steps
returns-in-Some-clause-steps g c =
    let rest = c.in_ok-rest.rest.now in
    ap fields_in c.in_ok-rest.was ∙ fields_are rest ∙ ap (fields_by rest) (sym c.in-Some.ensures)

pub returns-in-Some-clause-goes : goal.returns-in-Some-clause-goes
returns-in-Some-clause-goes g c =
    let rest = c.in_ok-rest.rest.now in
    let step = ap fields_in c.in_ok-rest.was ∙ fields_are rest ∙ ap (fields_by rest) (sym c.in-Some.ensures) in
    record { on = λ _. (tt, tt, omega (arith, ap length step)); keeps = tt; rests = λ _. tt }

pub returns-in-None-clause-steps : goal.returns-in-None-clause-steps
returns-in-None-clause-steps g c =
    let rest = c.in_ok-rest.rest.now in
    ap fields_in c.in_ok-rest.was ∙ fields_are rest ∙ ap (fields_by rest) (sym c.in-None.ensures)

pub returns-in-None-clause-goes : goal.returns-in-None-clause-goes
returns-in-None-clause-goes g c =
    let rest = c.in_ok-rest.rest.now in
    let step = ap fields_in c.in_ok-rest.was ∙ fields_are rest ∙ ap (fields_by rest) (sym c.in-None.ensures) in
    record { on = λ _. (tt, tt, omega (arith, ap length step)); keeps = tt; rests = λ _. tt }

pub invariant_of-self : goal.invariant_of-self
invariant_of-self g c =
    let s = c.args.self.now.short in
    let e = ap size_left c.in_ok-rest.was in
    record { short = omega (arith, behind_short 9 c.in_ok-rest.rest.now c.in-Some.ensures) }
