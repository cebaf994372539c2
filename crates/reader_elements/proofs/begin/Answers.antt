-- An empty element is pushed; another begins.
use Rattle.std.proofs.lemmas.Result.{err_from_is_err_and}
use mathlib.Core.Path.{refl}
use mir.Syntax.{w64}
use mir.Val.{to_z}
use Rattle.reader_elements.proofs.Elements.{empty_works, begun_works}
use Rattle.reader_elements.proofs.begin.Goals as goal

pub returns-in_err-push_empty-clause-works : goal.returns-in_err-push_empty-clause-works
returns-in_err-push_empty-clause-works g c =
    let p = err_from_is_err_and c.from_residual.result c.from_residual.ensures.1 in
    λ s o short given.
    rw (c.if-empty.true, p.1, p.2)
    (empty_works s (to_z w64 c.args.act.now.id) _ _ (rw (c.in_err-push_empty.was, ← o) at (c.push_empty.ensures.pushed short (rw o at given))))

pub returns-then-empty-clause-works : goal.returns-then-empty-clause-works
returns-then-empty-clause-works g c =
    λ s o short given.
    rw (c.if-empty.true, c.default.ensures)
    (empty_works s (to_z w64 c.args.act.now.id) _ _ (rw (c.in_ok-push_empty.was, ← o) at (c.push_empty.ensures.pushed short (rw o at given))))

pub returns-in_err-meta-clause-works : goal.returns-in_err-meta-clause-works
returns-in_err-meta-clause-works g c =
    let p = err_from_is_err_and c.from_residual-in_err-meta.result c.from_residual-in_err-meta.ensures.1 in
    λ s o short given.
    rw (c.if-empty.false, p.1, p.2)
    (begun_works s (to_z w64 c.args.act.now.id) _ _ (rw (c.in_err-meta.was, ← o) at (c.begin_element.ensures.begun short (rw o at given))) refl)

pub returns-clause-works : goal.returns-clause-works
returns-clause-works g c =
    λ s o short given.
    rw c.if-empty.false
    (begun_works s (to_z w64 c.args.act.now.id) _ _ (rw (c.in_ok-meta.was, ← o) at (c.begin_element.ensures.begun short (rw o at given))) c.head_for-head.ensures.bits)
