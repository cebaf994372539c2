-- Laws of reading: a field from the number of its digits, and the six fields in their order.
use Rattle.std.specs.Prelude.{None, Option, Some}
use Rattle.base.specs.Options.{bind}
use Prim.Native.Nat.{ℕ, ◌^◌, ◌<◌, ◌≤◌}
use mathlib.Core.Path.{◌≡◌, refl}
use native.Mathlib.Omega.{arith}
use native.Mathlib.Nat.{pow-le-pow_right, lt_of_lt_of_le}
use lib.ListN.{length, take, drop, length-take}
use borrow.Author.Tests.{le-leb}
use Rattle.base.specs.Bytes.{Bytes}
use Rattle.integer.specs.Integer.{digits}
use Rattle.integer.specs.Bounded.{at_most}
use Rattle.integer.proofs.Digits.{digits_below}
use Rattle.stamp.specs.Stamp.{stamp_field, moment}
use Rattle.stamp.specs.declared.Moment.{Moment}

-- ---- a field

-- at most four digits write no number above 9999
few_small : (s : Bytes) {n : ℕ} → length s ≤ 4 → digits s ≡ Some n → n ≤ 9999
few_small s {n} l e =
    let few : n < 10 ^ 4 = lt_of_lt_of_le (digits_below s e) (pow-le-pow_right (omega arith) l) in
    omega arith

pub field_small : (s : Bytes) (from count : ℕ) {n : ℕ} → count ≤ 4 → stamp_field s from count ≡ Some n → n ≤ 9999
unfolding stamp_field
field_small s from count l e = few_small (take count (drop from s)) (simp length-take (omega arith)) e

-- so the reader of numbers up to 9999 gives the field
pub field_read : (s : Bytes) → length s ≤ 4 → at_most 9999 (digits s) ≡ digits s
unfolding at_most
field_read s l = go (digits s) refl
  where
    go : (o : Option ℕ) → digits s ≡ o → at_most 9999 o ≡ o
    go None e = refl
    go (Some n) e = rw (le-leb n 9999 (few_small s l e))

-- ---- the fields in their order: the first that is not digits, or all six

stopped : {A B : Type 0} (o : Option A) (f : A → Option B) → o ≡ None → bind o f ≡ None
unfolding bind
stopped o f e = rw e

gone : {A B : Type 0} (o : Option A) (f : A → Option B) → ((x : A) → f x ≡ None) → bind o f ≡ None
unfolding bind
gone None f h = refl
gone (Some x) f h = h x

module _ (s : Bytes) where
  pub no_year : stamp_field s 0 4 ≡ None → moment s ≡ None
  unfolding moment
  no_year e = stopped _ _ e

  pub no_month : stamp_field s 5 2 ≡ None → moment s ≡ None
  unfolding moment
  no_month e = gone _ _ (λ y. stopped _ _ e)

  pub no_day : stamp_field s 8 2 ≡ None → moment s ≡ None
  unfolding moment
  no_day e = gone _ _ (λ y. gone _ _ (λ m. stopped _ _ e))

  pub no_hour : stamp_field s 11 2 ≡ None → moment s ≡ None
  unfolding moment
  no_hour e = gone _ _ (λ y. gone _ _ (λ m. gone _ _ (λ d. stopped _ _ e)))

  pub no_minute : stamp_field s 14 2 ≡ None → moment s ≡ None
  unfolding moment
  no_minute e = gone _ _ (λ y. gone _ _ (λ m. gone _ _ (λ d. gone _ _ (λ h. stopped _ _ e))))

  pub no_second : stamp_field s 17 2 ≡ None → moment s ≡ None
  unfolding moment
  no_second e = gone _ _ (λ y. gone _ _ (λ m. gone _ _ (λ d. gone _ _ (λ h. gone _ _ (λ i. stopped _ _ e)))))

  pub moment_of_lem : (t : Moment) → stamp_field s 0 4 ≡ Some t.year → stamp_field s 5 2 ≡ Some t.month → stamp_field s 8 2 ≡ Some t.day → stamp_field s 11 2 ≡ Some t.hour → stamp_field s 14 2 ≡ Some t.minute → stamp_field s 17 2 ≡ Some t.second → moment s ≡ Some t
  unfolding moment bind
  moment_of_lem t y m d h i x = rw (y, m, d, h, i, x)
