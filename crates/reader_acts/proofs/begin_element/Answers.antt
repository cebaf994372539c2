-- The user that metadata names is taken in; without one the handle is 0.
use Rattle.std.specs.Prelude.{Ok, Option, is_some}
use mathlib.Core.Path.{ap}
use native.Mathlib.Omega.{arith}
use Rattle.std.proofs.lemmas.Result.{err_from_is_err_and}
use Rattle.overlay.specs.Lent.{overlay_held}
use Rattle.event_scan.specs.declared.fields.Value.{Value}
use Rattle.reader_acts.specs.Acts.{act_means}
use Rattle.reader_acts.proofs.Bits.{act_named, act_unnamed}
use Rattle.reader_acts.proofs.Laws.{begin_named, begin_unnamed}
use Rattle.reader_acts.proofs.begin_element.Goals as goal

pub returns-in_default-clause-begun : goal.returns-in_default-clause-begun
returns-in_default-clause-begun g c =
    let e = ap (λ (x : Option (Value _)). is_some x) c.in_default.is in
    λ short given. begin_unnamed (act_means c.args.act.now) (overlay_held c.args.storage.now) (act_unnamed c.args.act.now c.in_default.is) (rw e (c.with_user.ensures.bits (act_means c.args.act.now).user (omega arith)))

pub returns-in_err-handle-clause-begun : goal.returns-in_err-handle-clause-begun
returns-in_err-handle-clause-begun g c =
    let p = err_from_is_err_and c.from_residual.result c.from_residual.ensures.1 in
    let u = act_named c.args.act.now c.in-Some.is in
    λ short given.
    let stored = rw u.1 at (c.take_text.ensures.taken (rw c.in-Some.is at short) given.serve) in
    begin_named (act_means c.args.act.now) (overlay_held c.args.storage.now) u.0 given.few stored (λ k. rw (p.1, p.2, c.in_err-handle.was))

pub returns-clause-begun : goal.returns-clause-begun
returns-clause-begun g c =
    let u = act_named c.args.act.now c.in-Some.is in
    let e = ap (λ (x : Option (Value _)). is_some x) c.in-Some.is in
    λ short given.
    let stored = rw u.1 at (c.take_text.ensures.taken (rw c.in-Some.is at short) given.serve) in
    begin_named (act_means c.args.act.now) (overlay_held c.args.storage.now) u.0 given.few stored (λ k. rw c.in_ok-handle.was (ap Ok (rw e (c.with_user-2.ensures.bits (act_means c.args.act.now).user (rw c.in_ok-handle.was at k)))))
