-- The answer of the delete.
use Rattle.std.proofs.lemmas.Result.{err_from_is_err_and}
use mir.Syntax.{w64}
use mir.Val.{to_z}
use Rattle.reader_elements.proofs.Elements.{deletes_works}
use Rattle.reader_elements.proofs.delete.Goals as goal

pub returns-in_err-delete_element-clause-works : goal.returns-in_err-delete_element-clause-works
returns-in_err-delete_element-clause-works g c =
    let p = err_from_is_err_and c.from_residual.result c.from_residual.ensures.1 in
    λ s o short given.
    rw (p.1, p.2)
    (deletes_works s c.args.act.now.kind (to_z w64 c.args.act.now.id) _ (rw (c.in_err-delete_element.was, ← o) at (c.delete_element.ensures.deleted short (rw o at given))))

pub returns-clause-works : goal.returns-clause-works
returns-clause-works g c =
    λ s o short given.
    rw c.default.ensures
    (deletes_works s c.args.act.now.kind (to_z w64 c.args.act.now.id) _ (rw (c.in_ok-delete_element.was, ← o) at (c.delete_element.ensures.deleted short (rw o at given))))
