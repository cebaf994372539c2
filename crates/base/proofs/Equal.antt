-- The language's `==` tells whether two runs of bytes are the same, as `same` does.
use lib.Dec.{eqb}
use mathlib.Core.Path.{◌≡◌, ◌∙◌, ap}
use mathlib.Core.Bool.{Bool}
use Rattle.std.specs.Cmp.Lexicographic.{pointwise}
use Rattle.std.proofs.lemmas.Bool.Decides.{Decides-eqb, same_from_decides}
use Rattle.std.proofs.lemmas.Slice.Eq.{slice_eq-Decides}
use Rattle.base.specs.Bytes.{Bytes, same}
use Rattle.base.proofs.Lists.{same_yes, same_refl}

pub equal : (s t : Bytes) {r : Bool} → r ≡ pointwise eqb s t → r ≡ same s t
equal s t {r} h = same_from_decides r (same s t) (slice_eq-Decides Decides-eqb s t r h) (same_yes s t, λ (e : s ≡ t). rw e (same_refl t))

-- the same where the second run is known, as that of a literal is
pub known : (s t : Bytes) {k : Bytes} {r : Bool} → t ≡ k → r ≡ pointwise eqb s t → r ≡ same s k
known s t e h = equal s t h ∙ ap (same s) e
