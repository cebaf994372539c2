-- Laws of month lengths: the formula, bounds, and the days of the first months.
use Prim.Native.Nat.{ℕ, zero, suc, ◌+◌, ◌-◌, ◌*◌, ◌/◌, ◌%◌, ◌<◌, ◌≤◌}
use mathlib.Core.Path.{◌≡◌, refl}
use mathlib.Core.Bool.{Bool, true, false, cond}
use native.Mathlib.Omega.{arith}
use native.Mathlib.Numerals.{add-one, sub-one}
use lib.Dec.{eqb}
use borrow.Author.Tests.{eqb-true, ne_eqb}
use Rattle.base.specs.Bytes.{both, either}
use Rattle.base.proofs.Split.{both_left, both_right, by_either, by_eq, no}
use Rattle.calendar.specs.Calendar.{month_days, months_days}

pub february : (l : Bool) → month_days l 2 ≡ cond l 29 28
unfolding month_days
february l = refl

-- a test that each number below n passes
abbrev all_below : (ℕ → Bool) → ℕ → Bool
all_below f zero = true
all_below f (suc n) = both (f n) (all_below f n)

each_below : (f : ℕ → Bool) (n : ℕ) → all_below f n ≡ true → (k : ℕ) → k < n → f k ≡ true
each_below f zero t k h = absurd (omega arith)
each_below f (suc n) t k h = by_eq k n (λ e. rw e (both_left _ _ t)) (λ e. each_below f n (both_right _ _ t) k (omega arith))

-- the month after k months is February, or has the formula's length
unfoldable right : Bool → ℕ → Bool
right l k = either (eqb (suc k) 2) (eqb (month_days l (suc k)) (30 + (suc k + suc k / 8) % 2))

-- all twelve months by one test that antt computes
twelve : (l : Bool) → all_below (right l) 12 ≡ true
unfolding right both either month_days
twelve l = refl

-- document 02, request 5: for a month other than February, 30 plus the remainder by two of the month plus the month divided by eight, rounded down
pub month_formula : (l : Bool) (m : ℕ) → 1 ≤ m → m ≤ 12 → (m ≡ 2 → ⊥) → month_days l m ≡ 30 + (m + m / 8) % 2
unfolding right
month_formula l zero z h e = no (omega arith)
month_formula l (suc k) z h e = by_either _ _ (each_below (right l) 12 (twelve l) k h) (λ t. absurd (e (eqb-true (suc k) 2 t))) (λ t. eqb-true _ _ t)

pub no_month : (l : Bool) → month_days l 0 ≡ 31
unfolding month_days either
no_month l = refl

pub past_month : (l : Bool) (m : ℕ) → 12 < m → month_days l m ≡ 31
unfolding month_days either
past_month l m h =
    rw (ne_eqb m 2 (λ e. omega arith), ne_eqb m 4 (λ e. omega arith), ne_eqb m 6 (λ e. omega arith), ne_eqb m 9 (λ e. omega arith), ne_eqb m 11 (λ e. omega arith))

-- what holds of both choices holds of the chosen one
chosen : (P : ℕ → Type 0) (t : Bool) {a b : ℕ} → P a → P b → P (cond t a b)
chosen P true p q = p
chosen P false p q = q

abbrev Between : ℕ → Type 0
Between n = (28 ≤ n) × (n ≤ 31)

pub month_bounds : (l : Bool) (m : ℕ) → (28 ≤ month_days l m) × (month_days l m ≤ 31)
unfolding month_days
month_bounds l m = chosen Between (eqb m 2) (chosen Between l (omega arith) (omega arith)) (chosen Between (either (either (eqb m 4) (eqb m 6)) (either (eqb m 9) (eqb m 11))) (omega arith) (omega arith))

pub months_none : (l : Bool) → months_days l 0 ≡ 0
unfolding months_days
months_none l = refl

pub months_more : (l : Bool) (k : ℕ) → months_days l (suc k) ≡ months_days l k + month_days l (suc k)
unfolding months_days
months_more l k = refl

pub months_high : (l : Bool) (k : ℕ) → months_days l k ≤ 31 * k
unfolding months_days
months_high l zero = omega arith
months_high l (suc k) = omega (arith, months_high l k, month_bounds l (suc k))

-- one month more, as a loop that counts from 1 meets it
pub months_step : (l : Bool) (m : ℕ) → 1 ≤ m → months_days l (m + 1 - 1) ≡ months_days l (m - 1) + month_days l m
months_step l zero h = no (omega arith)
months_step l (suc k) h = rw (add-one, sub-one, sub-one) (months_more l k)
