-- The handle of the user's text is found first: with one the id is deleted and the text follows, without one it is refused.
use Rattle.std.proofs.lemmas.Result.{err_from_is_err_and}
use mathlib.Core.Path.{ap, ◌∙◌}
use mir.Syntax.{w64}
use mir.Val.{to_z}
use Rattle.overlay.specs.Lent.{overlay_held}
use Rattle.reader_acts.specs.Acts.{act_means, then_user_on}
use Rattle.reader_acts.proofs.Bits.{act_claims}
use Rattle.reader_acts.proofs.Once.{asked, before_ok, before_not, behind, delete_done, delete_not}
use Rattle.reader_acts.proofs.delete_element.Goals as goal

pub returns-in_err-user-clause-deleted : goal.returns-in_err-user-clause-deleted
returns-in_err-user-clause-deleted g c =
    let p = err_from_is_err_and c.from_residual.result c.from_residual.ensures.1 in
    let o = overlay_held c.args.storage.now in
    let act = c.args.act.now in
    let id = to_z w64 act.id in
    let m = act_means act in
    λ short serve.
    let e = rw c.in_err-user.was at (asked act.kind id m o c.storage.ensures serve (c.user_before.ensures.asked short)) in
    let n = before_not act.kind id m o e in
    rw (p.1, p.2) (delete_not act.kind id m o n.1.0 n.1.1)

pub returns-in_err-store_delete-clause-deleted : goal.returns-in_err-store_delete-clause-deleted
returns-in_err-store_delete-clause-deleted g c =
    let p = err_from_is_err_and c.from_residual-in_err-store_delete.result c.from_residual-in_err-store_delete.ensures.1 in
    let o = overlay_held c.args.storage.now in
    let act = c.args.act.now in
    let id = to_z w64 act.id in
    let m = act_means act in
    λ short serve.
    let e = rw c.in_ok-user.was at (asked act.kind id m o c.storage.ensures serve (c.user_before.ensures.asked short)) in
    let user = before_ok act.kind id m o e in
    let done = rw (c.claim-claim.ensures ∙ act_claims act, c.in_err-store_delete.was) at c.store_delete.ensures in
    rw (p.1, p.2) (delete_done act.kind id m o user (ap (then_user_on m) done))

pub returns-clause-deleted : goal.returns-clause-deleted
returns-clause-deleted g c =
    let o = overlay_held c.args.storage.now in
    let act = c.args.act.now in
    let id = to_z w64 act.id in
    let m = act_means act in
    λ short serve.
    let e = rw c.in_ok-user.was at (asked act.kind id m o c.storage.ensures serve (c.user_before.ensures.asked short)) in
    let user = before_ok act.kind id m o e in
    let done = rw (c.claim-claim.ensures ∙ act_claims act, c.in_ok-store_delete.was) at c.store_delete.ensures in
    delete_done act.kind id m o user (behind _ m o serve _ user act.kind _ done (c.take_user.ensures.taken short))
