-- The answer of the push.
use Rattle.std.proofs.lemmas.Result.{err_from_is_err_and}
use Rattle.reader_elements.proofs.Elements.{ends_works}
use Rattle.reader_elements.proofs.end.Goals as goal

pub returns-in_err-push_staged-clause-works : goal.returns-in_err-push_staged-clause-works
returns-in_err-push_staged-clause-works c =
    let p = err_from_is_err_and c.from_residual.result c.from_residual.ensures.1 in
    λ s o k x parts.
    rw (p.1, p.2) (ends_works s o k x parts (rw c.in_err-push_staged.was at c.push_staged.ensures.pushed))

pub returns-clause-works : goal.returns-clause-works
returns-clause-works c =
    λ s o k x parts.
    rw c.default.ensures (ends_works s o k x parts (rw c.in_ok-push_staged.was at c.push_staged.ensures.pushed))
