-- A table's rule, shown for the whole by one test that antt computes.
use Prim.Native.Nat.{ℕ, zero, suc, ◌+◌, ◌<◌}
use mathlib.Core.Path.{◌≡◌}
use mathlib.Core.Bool.{Bool, true}
use mathlib.Core.List.{List, [], ◌∷◌}
use native.Mathlib.Omega.{arith}
use native.Mathlib.Nat.{add-zero, add-suc, suc-add, zero-add}
use lib.ListN.{length, get_or}
use Rattle.base.specs.Bytes.{both}
use Rattle.base.proofs.Split.{both_left, both_right}

-- each entry passes the test at its place, the first place being i
abbrev pub passes : (ℕ → ℕ → Bool) → ℕ → List ℕ → Bool
passes f i [] = true
passes f i (x ∷ xs) = both (f i x) (passes f (suc i) xs)

entry : (f : ℕ → ℕ → Bool) (i : ℕ) (xs : List ℕ) → passes f i xs ≡ true → (k : ℕ) → k < length xs → f (i + k) (get_or xs k 0) ≡ true
entry f i [] t k h = absurd (omega arith)
entry f i (x ∷ xs) t zero h = rw add-zero (both_left _ _ t)
entry f i (x ∷ xs) t (suc k) h = rw (add-suc, ← suc-add) (entry f (suc i) xs (both_right _ _ t) k (omega arith))

pub rule : (f : ℕ → ℕ → Bool) (xs : List ℕ) → passes f 0 xs ≡ true → (k : ℕ) → k < length xs → f k (get_or xs k 0) ≡ true
rule f xs t k h = rw zero-add at (entry f 0 xs t k h)
