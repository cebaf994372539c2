-- Runs of bytes that are compared with a word: the word stands where the compared slice has it.
use mathlib.Core.Path.{◌≡◌, refl, ◌∙◌, ap}
use mathlib.Core.Bool.{Bool, false}
use mathlib.Core.List.{[], ◌∷◌}
use lib.Dec.{eqb}
use lib.ListN.{length}
use native.Mathlib.Omega.{arith}
use Rattle.base.specs.Bytes.{Bytes, same}
use Rattle.base.proofs.Split.{both_no_right}

pub spelled : (s t : Bytes) {k : Bytes} {r : Bool} → t ≡ k → r ≡ same s t → r ≡ same s k
spelled s t e h = h ∙ ap (same s) e

pub unlike : (s t : Bytes) → (length s ≡ length t → ⊥) → same s t ≡ false
unfolding same
unlike [] [] h = absurd (h refl)
unlike [] (b ∷ t) h = refl
unlike (a ∷ s) [] h = refl
unlike (a ∷ s) (b ∷ t) h = both_no_right (eqb a b) (unlike s t (λ e. h (omega (arith, e))))
