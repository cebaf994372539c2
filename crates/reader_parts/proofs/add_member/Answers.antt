-- Within the limit the role is taken in first, and its handle staged; else nothing is done.
use Rattle.std.proofs.lemmas.Result.{err_from_is_err_and}
use mathlib.Core.Path.{◌≡◌, sym, ◌∙◌, ap}
use mir.Syntax.{w64}
use mir.Val.{to_z}
use mir.Facts.{of_z-to_z}
use Rattle.base.specs.Bytes.{Bytes}
use Rattle.event_scan.specs.Fields.{text_written}
use Rattle.model.specs.Record.{Member}
use Rattle.reader_stage.specs.Stage.{member_part}
use Rattle.reader.specs.Lent.{state_held}
use Rattle.reader.specs.State.{State}
use Rattle.reader.specs.Step.{member_bits}
use Rattle.reader_parts.proofs.Adds.{member_child, staged_left, refused_left, over_left}
use Rattle.reader_parts.proofs.Steps.{member_works}
use Rattle.reader_parts.proofs.add_member.Goals as goal

pub returns-in_err-role-clause-works : goal.returns-in_err-role-clause-works
returns-in_err-role-clause-works g c =
    let s = state_held c.args.state.now in
    let m : Member Bytes = record { ref = to_z w64 c.args.reference; type = c.args.kind; role = text_written c.args.role.now } in
    let p = err_from_is_err_and c.from_residual.result c.from_residual.ensures.1 in
    λ short given. member_works s (record { state = state_held c.take_handle.new.state; answer = c.from_residual.result }) m
    (rw (p.1, p.2) (refused_left s (member_child s m) (c.take_handle.ensures.taken short given) c.in_err-role.was c.take_handle.ensures.rest))

pub returns-then-part_fits-clause-works : goal.returns-then-part_fits-clause-works
returns-then-part_fits-clause-works g c =
    let s = state_held c.args.state.now in
    let m : Member Bytes = record { ref = to_z w64 c.args.reference; type = c.args.kind; role = text_written c.args.role.now } in
    let y = member_child s m in
    let x = c.member_bytes-part.result in
    let e : x ≡ member_part (member_bits m c.in_ok-role.role) = rw (c.member_bytes-part.ensures, c.from.ensures, of_z-to_z c.ranges.reference) in
    λ short given. member_works s _ m
    (staged_left s y (c.take_handle.ensures.taken short given) (sym c.part_fits.ensures ∙ c.if-part_fits.true) c.in_ok-role.was c.take_handle.ensures.rest x e c.stage_middle-state.ensures.parts
    (c.stage_middle-state.ensures.pending (rw (ap (λ (z : State). z.parts) c.take_handle.ensures.rest) given.used)))

pub returns-clause-works : goal.returns-clause-works
returns-clause-works g c =
    let s = state_held c.args.state.now in
    let m : Member Bytes = record { ref = to_z w64 c.args.reference; type = c.args.kind; role = text_written c.args.role.now } in
    let e = c.storage.ensures ∙ ap (λ (z : State). z.overlay) c.view.ensures in
    λ short given. member_works s (record { state = s; answer = c.over_limit.result }) m (over_left s (member_child s m) (sym c.part_fits.ensures ∙ c.if-part_fits.false) e given.serve (c.over_limit.ensures short))
