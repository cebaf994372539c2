-- The handle of the user's text is found first: with one the element is pushed and the text follows, without one it is refused.
use Rattle.std.proofs.lemmas.Result.{err_from_is_err_and}
use mathlib.Core.Path.{sym, ap, ◌∙◌}
use Prim.Native.Nat.{ℕ}
use mir.Syntax.{w64}
use mir.Val.{to_z}
use Rattle.overlay.specs.Lent.{overlay_held}
use Rattle.compact.specs.declared.PushHead.{PushHead}
use Rattle.reader_acts.specs.Acts.{act_means, then_user_on}
use Rattle.reader_acts.proofs.Bits.{act_claims, kind_read}
use Rattle.reader_acts.proofs.Handles.{user_fits}
use Rattle.reader_acts.proofs.Once.{asked, before_ok, before_not, behind, empty_done, empty_not}
use Rattle.reader_acts.proofs.push_empty.Goals as goal

pub returns-in_err-user-clause-pushed : goal.returns-in_err-user-clause-pushed
returns-in_err-user-clause-pushed g c =
    let p = err_from_is_err_and c.from_residual.result c.from_residual.ensures.1 in
    let o = overlay_held c.args.storage.now in
    let act = c.args.act.now in
    let id = to_z w64 act.id in
    let m = act_means act in
    λ short given.
    let e = rw c.in_err-user.was at (asked act.kind id m o c.storage.ensures given.serve (c.user_before.ensures.asked short)) in
    let n = before_not act.kind id m o e in
    rw (p.1, p.2) (empty_not act.kind id m o _ (kind_read act.kind c.args.coordinates.lat c.args.coordinates.lon) n.1.0 n.1.1)

pub returns-in_err-push-clause-pushed : goal.returns-in_err-push-clause-pushed
returns-in_err-push-clause-pushed g c =
    let p = err_from_is_err_and c.from_residual-in_err-push.result c.from_residual-in_err-push.ensures.1 in
    let o = overlay_held c.args.storage.now in
    let act = c.args.act.now in
    let id = to_z w64 act.id in
    let m = act_means act in
    let h = c.head_for.ensures in
    let same = ap (λ (z : PushHead). to_z w64 z.id) (sym h.bits) ∙ ap (λ (n : ℕ). to_z w64 n) h.id in
    λ short given.
    let e = rw c.in_ok-user.was at (asked act.kind id m o c.storage.ensures given.serve (c.user_before.ensures.asked short)) in
    let user = before_ok act.kind id m o e in
    let meta = rw (rw c.in_ok-user.was at c.user_before.ensures.named) at (c.with_user.ensures.bits m.user (user_fits m o _ user given.few)) in
    let claims = rw meta at (c.with_user.ensures.claim ∙ act_claims act) in
    let done = rw (meta, c.in_err-push.was) at c.push.ensures.done in
    rw (p.1, p.2) (empty_done act.kind id m o _ same _ claims (kind_read act.kind c.args.coordinates.lat c.args.coordinates.lon) h.bits user (ap (then_user_on m) done))

pub returns-clause-pushed : goal.returns-clause-pushed
returns-clause-pushed g c =
    let o = overlay_held c.args.storage.now in
    let act = c.args.act.now in
    let id = to_z w64 act.id in
    let m = act_means act in
    let h = c.head_for.ensures in
    let same = ap (λ (z : PushHead). to_z w64 z.id) (sym h.bits) ∙ ap (λ (n : ℕ). to_z w64 n) h.id in
    λ short given.
    let e = rw c.in_ok-user.was at (asked act.kind id m o c.storage.ensures given.serve (c.user_before.ensures.asked short)) in
    let user = before_ok act.kind id m o e in
    let meta = rw (rw c.in_ok-user.was at c.user_before.ensures.named) at (c.with_user.ensures.bits m.user (user_fits m o _ user given.few)) in
    let claims = rw meta at (c.with_user.ensures.claim ∙ act_claims act) in
    let done = rw (meta, c.in_ok-push.was) at c.push.ensures.done in
    empty_done act.kind id m o _ same _ claims (kind_read act.kind c.args.coordinates.lat c.args.coordinates.lon) h.bits user (behind _ m o given.serve _ user act.kind _ done (c.take_user.ensures.taken short))
