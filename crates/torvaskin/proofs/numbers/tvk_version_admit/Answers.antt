-- The floor's answer to the claim.
use Rattle.std.specs.Prelude.{◌≡◌, ℤ, Ok, Err, Result}
use Rattle.std.specs.Result.{MatchResult, IsErrAnd}
use Rattle.refusal.specs.declared.Refusal.{Refusal}
use Rattle.refusal.specs.declared.Refusal.TheVariants.{Regression}
use Rattle.c_replies.specs.Numbers.{admit_reply}
use Rattle.c_replies.specs.Overlays.{kept_reply}
use Rattle.torvaskin.proofs.numbers.tvk_version_admit.Goals as goal

refused : (x : Result Unit ℤ) (y : Result Unit Refusal) → MatchResult x (λ u. y ≡ Ok u) (λ v. IsErrAnd y (λ r. r ≡ Regression v)) → kept_reply y ≡ admit_reply x
refused (Ok tt) y e = rw e
refused (Err v) (Err r) e = rw e
refused (Err v) (Ok u) e = absurd e

pub returns : goal.returns
returns c =
    rw (← c.version_of_word-highest.ensures, ← c.version_of_word.ensures, ← c.new.ensures, ← c.admit-answer.ensures, c.kept_reply.ensures)
    (refused c.admit-answer.result c.map_err.result c.map_err.ensures.cases)
