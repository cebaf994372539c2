-- The test that each call makes first, as its caller learns it at a `?`.
use Rattle.std.specs.Prelude.{Err, Ok, Result}
use Rattle.std.specs.Result.{IsErr, IsErrAnd}
use Rattle.std.proofs.lemmas.Result.{err_from_is_err_and}
use mathlib.Core.Path.{◌≡◌, ◌∙◌, ap}
use mathlib.Core.Bool.{true, false}
use Rattle.base.proofs.Split.{by_bool, no}
use Rattle.refusal.specs.declared.Refusal.{Refusal}
use Rattle.refusal.specs.declared.Refusal.TheVariants as R
use Rattle.overlay.specs.Overlay.{Overlay}
use Rattle.overlay.specs.Sound.{is_sound}
use Rattle.overlay.specs.Calls.{sound_answer}

pub checked_sound : (o : Overlay) {u : Unit} → Ok u ≡ sound_answer o → is_sound o ≡ true
checked_sound o {u} e = by_bool (is_sound o) (λ s. s) (λ s. let z : Ok u ≡ Err R.Unsound = rw s at e in no (cc))

-- what a failed test leaves: 22 is handed on
pub checked_unsound : (o : Overlay) {x : Refusal} {A : Type 0} {r : Result A Refusal} → Err x ≡ sound_answer o → IsErr r × IsErrAnd r (λ y. y ≡ x)
    → (is_sound o ≡ false) × (r ≡ Err R.Unsound)
checked_unsound o {x} {A} {r} e h =
    let p = err_from_is_err_and r h.1 in
    by_bool (is_sound o) (λ s. let z : Err x ≡ Ok tt = rw s at e in no (cc))
    (λ s. let z : Err x ≡ Err R.Unsound = rw s at e in let q : x ≡ R.Unsound = cc in (s, p.1 ∙ ap Err (p.2 ∙ q)))
