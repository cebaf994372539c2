-- Within the limits the key is taken in first, and its handle staged; else nothing is done.
use Rattle.std.proofs.lemmas.Result.{err_from_is_err_and}
use mathlib.Core.Path.{◌≡◌, sym, ◌∙◌, ap}
use mathlib.Core.List.{◌++◌, append_assoc}
use native.Mathlib.Omega.{arith}
use mir.Facts.{Fits-of_lt}
use lib.ListN.{length}
use Rattle.base.specs.Bytes.{Bytes}
use Rattle.event_scan.specs.Fields.{text_written}
use Rattle.model.specs.Record.{Tag}
use Rattle.reader_stage.specs.Stage.{tag_part}
use Rattle.reader.specs.Lent.{state_held}
use Rattle.reader.specs.State.{State}
use Rattle.reader_parts.proofs.Adds.{tag_child, fits_yes, staged_left, refused_left, over_left}
use Rattle.reader_parts.proofs.tag_with.Goals as goal

pub overflow_add-head : goal.overflow_add-head
overflow_add-head g c =
    let s = state_held c.args.state.now in
    let f = fits_yes s.reader.place.kind s.reader.pending (length c.args.value.now) (sym c.tag_fits.ensures ∙ c.if-tag_fits.true) in
    Fits-of_lt (omega arith)

pub stage_part-state-requires : goal.stage_part-state-requires
stage_part-state-requires g c =
    let s = state_held c.args.state.now in
    let f = fits_yes s.reader.place.kind s.reader.pending (length c.args.value.now) (sym c.tag_fits.ensures ∙ c.if-tag_fits.true) in
    (omega arith, f.1)

pub returns-in_err-handle-clause-worked : goal.returns-in_err-handle-clause-worked
returns-in_err-handle-clause-worked g c =
    let s = state_held c.args.state.now in
    let t : Tag Bytes = record { key = text_written c.args.key.now; value = c.args.value.now } in
    let p = err_from_is_err_and c.from_residual.result c.from_residual.ensures.1 in
    λ short given. rw (p.1, p.2) (refused_left s (tag_child s t) (c.take_handle.ensures.taken short given) c.in_err-handle.was c.take_handle.ensures.rest)

pub returns-then-tag_fits-clause-worked : goal.returns-then-tag_fits-clause-worked
returns-then-tag_fits-clause-worked g c =
    let s = state_held c.args.state.now in
    let v = c.args.value.now in
    let n = c.in_ok-handle.handle in
    let x = c.tag_bytes-numbers.result ++ v in
    let t : Tag Bytes = record { key = text_written c.args.key.now; value = v } in
    let e : x ≡ tag_part n v = rw (c.tag_bytes-numbers.ensures, append_assoc) in
    λ short given. staged_left s (tag_child s t) (c.take_handle.ensures.taken short given) (sym c.tag_fits.ensures ∙ c.if-tag_fits.true) c.in_ok-handle.was c.take_handle.ensures.rest x e c.stage_part-state.ensures.parts
    (c.stage_part-state.ensures.pending (rw (ap (λ (z : State). z.parts) c.take_handle.ensures.rest) given.used))

pub returns-clause-worked : goal.returns-clause-worked
returns-clause-worked g c =
    let s = state_held c.args.state.now in
    let t : Tag Bytes = record { key = text_written c.args.key.now; value = c.args.value.now } in
    let e = c.storage.ensures ∙ ap (λ (z : State). z.overlay) c.view.ensures in
    λ short given. over_left s (tag_child s t) (sym c.tag_fits.ensures ∙ c.if-tag_fits.false) e given.serve (c.over_limit.ensures short)
