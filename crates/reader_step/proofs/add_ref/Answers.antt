-- The element with the ref, or its refusal.
use Rattle.std.specs.Prelude.{Ok}
use Rattle.std.proofs.lemmas.Result.{err_from_is_err_and}
use mir.Syntax.{w64}
use mir.Val.{to_z}
use Rattle.reader.specs.Lent.{state_held}
use Rattle.reader_parts.proofs.Adds.{with_part}
use Rattle.reader_parts.proofs.Steps.{ref_works}
use Rattle.reader_step.proofs.add_ref.Goals as goal

pub returns-in_err-state-clause-works : goal.returns-in_err-state-clause-works
returns-in_err-state-clause-works c =
    let s = state_held c.args.state.now in
    let p = err_from_is_err_and c.from_residual.result c.from_residual.ensures.1 in
    λ within. ref_works s (record { state = with_part s s.reader.pending c.add_ref.new.parts; answer = c.from_residual.result }) (to_z w64 c.args.reference) (rw (p.1, p.2, ← c.add_ref.ensures s.overlay within, c.in_err-state.was))

pub returns-clause-works : goal.returns-clause-works
returns-clause-works c =
    let s = state_held c.args.state.now in
    λ within. ref_works s (record { state = with_part s c.in_ok-state.field-0 c.add_ref.new.parts; answer = Ok tt }) (to_z w64 c.args.reference) (rw (← c.add_ref.ensures s.overlay within, c.in_ok-state.was))
