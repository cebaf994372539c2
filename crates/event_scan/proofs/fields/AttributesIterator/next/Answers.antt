-- The next field is the next attribute.
use Rattle.std.proofs.Common.{arith}
use Rattle.event_scan.proofs.Parts.{written_found, written_whole, behind_short, field_short}
use Rattle.event_scan.proofs.fields.AttributesIterator.next.Goals as goal

pub returns-in-Some-clause-steps : goal.returns-in-Some-clause-steps
returns-in-Some-clause-steps g c = written_found _ _ _ c.in_ok-field.ensures.steps c.in-Some.ensures

pub returns-in-None-clause-steps : goal.returns-in-None-clause-steps
returns-in-None-clause-steps g c = written_whole _ _ _ c.in_ok-field.ensures.steps _ c.as_slice.ensures c.in-None.ensures

pub invariant_of-value : goal.invariant_of-value
invariant_of-value g c =
    let s = c.args.self.now.fields.short in
    record { short = omega (arith, behind_short 61 c.in_ok-field.field.now c.in-Some.ensures, field_short c.args.self.now.fields.rest _ _ c.in_ok-field.ensures.steps) }
