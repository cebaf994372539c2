-- Laws of years: leap years, and the counted days against the formula of the code.
use Prim.Native.Nat.{ℕ, zero, suc, ◌+◌, ◌-◌, ◌*◌, ◌/◌, ◌%◌, ◌<◌, ◌≤◌}
use mathlib.Core.Path.{◌≡◌, refl, sym, ap, ◌∙◌}
use mathlib.Core.Bool.{true, false, cond, not}
use native.Mathlib.Omega.{arith}
use native.Mathlib.Nat.{mod-lt, div-add-mod', suc-mul, div-eq_of_lt}
use lib.Arith.{digits_div}
use lib.Dec.{eqb}
use borrow.Author.Tests.{eq-eqb, ne_eqb}
use Rattle.base.specs.Bytes.{both, either}
use Rattle.base.proofs.Split.{both_of, either_right, by_bool, by_eq}
use Rattle.calendar.specs.Calendar.{leap, month_days, months_days, year_days, years_days}

module _ (y : ℕ) where
  pub leap_400 : y % 400 ≡ 0 → leap y ≡ true
  unfolding leap
  leap_400 a = both_of (eq-eqb (y % 4) 0 (omega arith)) (either_right (not (eqb (y % 100) 0)) (eq-eqb (y % 400) 0 a))

  pub leap_100 : (y % 400 ≡ 0 → ⊥) → y % 100 ≡ 0 → leap y ≡ false
  unfolding leap both either
  leap_100 a b = rw (eq-eqb (y % 4) 0 (omega arith), eq-eqb (y % 100) 0 b, ne_eqb (y % 400) 0 a)

  pub leap_4 : (y % 100 ≡ 0 → ⊥) → leap y ≡ eqb (y % 4) 0
  unfolding leap both either
  leap_4 b = rw (ne_eqb (y % 100) 0 b) (by_bool (eqb (y % 4) 0) (λ e. rw e) (λ e. rw e))

  -- the four kinds of years
  pub by_year : {C : Type 0} → (leap y ≡ true → y % 400 ≡ 0 → C) → (leap y ≡ false → (y % 400 ≡ 0 → ⊥) → y % 100 ≡ 0 → C) → (leap y ≡ true → (y % 100 ≡ 0 → ⊥) → y % 4 ≡ 0 → C) → (leap y ≡ false → (y % 100 ≡ 0 → ⊥) → (y % 4 ≡ 0 → ⊥) → C) → C
  by_year f g h k =
      by_eq (y % 400) 0 (λ a. f (leap_400 a) a)
      (λ a. by_eq (y % 100) 0 (λ b. g (leap_100 a b) a b)
      (λ b. by_eq (y % 4) 0 (λ d. h (leap_4 b ∙ eq-eqb (y % 4) 0 d) b d)
      (λ d. k (leap_4 b ∙ ne_eqb (y % 4) 0 d) b d)))

  pub long_year : leap y ≡ true → year_days y ≡ 366
  unfolding year_days months_days month_days either
  long_year e = rw e

  pub common_year : leap y ≡ false → year_days y ≡ 365
  unfolding year_days months_days month_days either
  common_year e = rw e

-- a year has 365 days, and one more if it is a leap year
pub year_length : (y : ℕ) → year_days y ≡ 365 + cond (leap y) 1 0
year_length y = by_bool (leap y) (λ e. rw (e, long_year y e)) (λ e. rw (e, common_year y e))

pub years_none : years_days 0 ≡ 0
unfolding years_days
years_none = refl

pub years_more : (y : ℕ) → years_days (suc y) ≡ years_days y + year_days y
unfolding years_days
years_more y = refl

-- how many of the numbers below y are divisible by suc m
unfoldable below : ℕ → ℕ → ℕ
below m y = (y + m) / suc m

below_none : (m : ℕ) → below m 0 ≡ 0
unfolding below
below_none m = div-eq_of_lt (omega arith)

module _ (m y : ℕ) where
  whole : y / suc m * suc m + y % suc m ≡ y
  whole = div-add-mod' y (suc m)

  quotient : (x q r : ℕ) → r < suc m → q * suc m + r ≡ x → x / suc m ≡ q
  quotient x q r h e = rw (← e) (digits_div q h)

  below_next : y % suc m ≡ 0 → below m (suc y) ≡ suc (below m y)
  unfolding below
  below_next z =
      quotient (suc y + m) (suc (y / suc m)) 0 (omega arith) (omega (arith, whole, suc-mul (y / suc m) (suc m)))
      ∙ ap suc (sym (quotient (y + m) (y / suc m) m (omega arith) (omega (arith, whole))))

  below_same : (y % suc m ≡ 0 → ⊥) → below m (suc y) ≡ below m y
  unfolding below
  below_same z =
      let l : y % suc m < suc m = mod-lt y (omega arith) in
      quotient (suc y + m) (suc (y / suc m)) (y % suc m) l (omega (arith, whole, suc-mul (y / suc m) (suc m)))
      ∙ sym (quotient (y + m) (suc (y / suc m)) (y % suc m - 1) (omega arith) (omega (arith, whole, suc-mul (y / suc m) (suc m))))

-- the years below y that are divisible by 4 and by 400 are leap years, less those divisible by 100
years_count : (y : ℕ) → years_days y + below 99 y ≡ 365 * y + below 3 y + below 399 y
years_count zero = omega (arith, years_none, below_none 3, below_none 99, below_none 399)
years_count (suc y) =
    by_year y
    (λ e a. omega (arith, years_more y, years_count y, long_year y e, below_next 3 y (omega arith), below_next 99 y (omega arith), below_next 399 y a))
    (λ e a b. omega (arith, years_more y, years_count y, common_year y e, below_next 3 y (omega arith), below_next 99 y b, below_same 399 y a))
    (λ e b d. omega (arith, years_more y, years_count y, long_year y e, below_next 3 y d, below_same 99 y b, below_same 399 y (omega arith)))
    (λ e b d. omega (arith, years_more y, years_count y, common_year y e, below_same 3 y d, below_same 99 y b, below_same 399 y (omega arith)))

-- the counted days by formula
pub years_formula : (y : ℕ) → years_days y ≡ 365 * y + (y + 3) / 4 - (y + 99) / 100 + (y + 399) / 400
unfolding below
years_formula y = omega (arith, years_count y)

pub years_high : (y : ℕ) → years_days y ≤ 366 * y
years_high y = omega (arith, years_formula y)
