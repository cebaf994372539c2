-- Laws of runs of digits and of the numbers that they write.
use Rattle.std.specs.Prelude.{None, Option, Some}
use Prim.Native.Nat.{ℕ, suc, ◌+◌, ◌-◌, ◌*◌, ◌^◌, ◌<◌, ◌≤◌}
use mathlib.Core.Path.{◌≡◌, refl, sym, ◌∙◌, ap}
use mathlib.Core.Bool.{true, false, cond}
use mathlib.Core.Logic.{◌⊎◌, ⊎_elim}
use mathlib.Core.List.{[], ◌∷◌, ◌++◌}
use native.Mathlib.Omega.{arith}
use native.Mathlib.Nat.{pow-suc, pow-le-pow_right, mul_comm, mul_assoc, mul-le-mul_right, lt_of_lt_of_le}
use native.Mathlib.Numerals.{add-one}
use lib.Dec.{leb}
use lib.ListN.{length, get_or, drop, drop_of_length-le}
use lib.Seq.{drop-cons}
use borrow.Author.Tests.{le-leb, lt-leb, leb-true}
use Rattle.base.specs.Bytes.{Bytes, is_digit, all, both}
use Rattle.base.proofs.Split.{no, by_bool, both_of, both_left, both_right, both_no_left, both_no_right}
use Rattle.base.proofs.Lists.{all_head, all_tail}
use Rattle.integer.specs.Integer.{decimal, digits}
use Rattle.integer.specs.Bounded.{at_most}

-- ---- a digit

module _ (b : ℕ) where
  pub digit_of : 48 ≤ b → b ≤ 57 → is_digit b ≡ true
  unfolding is_digit
  digit_of h k = both_of (le-leb 48 b h) (le-leb b 57 k)

  pub digit_is : is_digit b ≡ true → (48 ≤ b) × (b ≤ 57)
  unfolding is_digit
  digit_is e = (leb-true 48 b (both_left _ _ e), leb-true b 57 (both_right _ _ e))

  pub digit_not : (b < 48) ⊎ (57 < b) → is_digit b ≡ false
  unfolding is_digit
  digit_not h = ⊎_elim (λ l. both_no_left _ _ (lt-leb 48 b l)) (λ l. both_no_right (leb 48 b) (lt-leb b 57 l)) h

-- ---- the number that digits write

-- digits in two parts: the first part's number, and the second part's digits after it
pub decimal_append : (n : ℕ) (s t : Bytes) → decimal n (s ++ t) ≡ decimal (decimal n s) t
unfolding decimal
decimal_append n [] t = refl
decimal_append n (b ∷ s) t = decimal_append (n * 10 + (b - 48)) s t

pub decimal_nil : (n : ℕ) → decimal n [] ≡ n
unfolding decimal
decimal_nil n = refl

pub decimal_grows : (n : ℕ) (s : Bytes) → n ≤ decimal n s
unfolding decimal
decimal_grows n [] = omega arith
decimal_grows n (b ∷ s) = omega (arith, decimal_grows (n * 10 + (b - 48)) s)

pub decimal_below : (n : ℕ) (s : Bytes) → all is_digit s ≡ true → decimal n s < suc n * 10 ^ length s
unfolding decimal
decimal_below n [] h = omega arith
decimal_below n (b ∷ s) h =
    let d : (48 ≤ b) × (b ≤ 57) = digit_is b (all_head is_digit b s h) in
    let m : suc (n * 10 + (b - 48)) ≤ suc n * 10 = omega arith in
    lt_of_lt_of_le (decimal_below (n * 10 + (b - 48)) s (all_tail is_digit b s h))
    (rw (pow-suc, mul_comm (10 ^ length s) 10, ← mul_assoc) (mul-le-mul_right (10 ^ length s) m))

-- ---- one or more digits, and nothing else

pub digits_of : (s : Bytes) → 0 < length s → all is_digit s ≡ true → digits s ≡ Some (decimal 0 s)
unfolding digits
digits_of [] l h = absurd (omega arith)
digits_of (b ∷ s) l h = rw h

pub digits_is : (s : Bytes) {n : ℕ} → digits s ≡ Some n → (0 < length s) × ((all is_digit s ≡ true) × (decimal 0 s ≡ n))
unfolding digits
digits_is [] e = no (cc)
digits_is (b ∷ s) {n} e = by_bool (all is_digit (b ∷ s)) (λ t. (omega arith, (t, let w : Some (decimal 0 (b ∷ s)) ≡ Some n = rw t at e in cc))) (λ t. let w : None ≡ Some n = rw t at e in no (cc))

-- a text of k digits writes a number of at most k digits
pub digits_below : (s : Bytes) {n : ℕ} → digits s ≡ Some n → n < 10 ^ length s
digits_below s {n} e = let d : decimal 0 s < 1 * 10 ^ length s = decimal_below 0 s (digits_is s e).1.0 in omega (arith, (digits_is s e).1.1)

-- ---- the reader's loop: what the rest of a text gives after digits worth n

unfoldable pub after : ℕ → Bytes → Option ℕ
after n s = cond (all is_digit s) (Some (decimal n s)) None

pub digits_after : (s : Bytes) → 0 < length s → digits s ≡ after 0 s
unfolding digits after
digits_after [] l = absurd (omega arith)
digits_after (b ∷ s) l = refl

pub after_nil : (n : ℕ) → after n [] ≡ Some n
unfolding after all decimal
after_nil n = refl

pub after_digit : (n b : ℕ) (s : Bytes) → is_digit b ≡ true → after n (b ∷ s) ≡ after (n * 10 + (b - 48)) s
unfolding after all decimal both
after_digit n b s h = rw h

pub after_other : (n b : ℕ) (s : Bytes) → is_digit b ≡ false → after n (b ∷ s) ≡ None
unfolding after all both
after_other n b s h = rw h

-- a number that is too large already stays so
pub after_over : (most n : ℕ) (s : Bytes) → most < n → at_most most (after n s) ≡ None
unfolding after at_most
after_over most n s h = by_bool (all is_digit s) (λ t. rw (t, lt-leb (decimal n s) most (omega (arith, decimal_grows n s)))) (λ t. rw t)

-- a digit more of a number that has a digit for each place
pub one_more : (n i d : ℕ) → n < 10 ^ i → d ≤ 9 → n * 10 + d < 10 ^ (i + 1)
one_more n i d h k = rw (add-one, pow-suc 10 i) (omega arith)

-- 19 digits write a number below 2^64
pub number_fits : (n i d : ℕ) → n < 10 ^ i → i < 19 → d ≤ 9 → n * 10 + d < 2 ^ 64
number_fits n i d h k l =
    let last : i ≤ 18 = omega arith in
    let most : 10 ^ i ≤ 10 ^ 18 = pow-le-pow_right (omega arith) last in
    omega arith

-- the same at a place of a text
module _ (s : Bytes) (at : ℕ) (h : at < length s) where
  here : drop at s ≡ get_or s at 0 ∷ drop (at + 1) s
  here = rw add-one (drop-cons s at 0 h)

  pub stops_here : (n : ℕ) → is_digit (get_or s at 0) ≡ false → after n (drop at s) ≡ None
  stops_here n e = rw (here, after_other n (get_or s at 0) (drop (at + 1) s) e)

  pub stops : (most n : ℕ) → is_digit (get_or s at 0) ≡ false → at_most most (after n (drop at s)) ≡ None
  unfolding at_most
  stops most n e = rw (here, after_other n (get_or s at 0) (drop (at + 1) s) e)

  pub goes_on : (n : ℕ) → is_digit (get_or s at 0) ≡ true → after n (drop at s) ≡ after (n * 10 + (get_or s at 0 - 48)) (drop (at + 1) s)
  goes_on n e = rw here (after_digit n (get_or s at 0) (drop (at + 1) s) e)

  pub too_large : (most n : ℕ) → is_digit (get_or s at 0) ≡ true → most < n * 10 + (get_or s at 0 - 48) → at_most most (after n (drop at s)) ≡ None
  too_large most n e k = ap (at_most most) (goes_on n e) ∙ after_over most _ (drop (at + 1) s) k

-- where the loop begins, and where it ends
pub no_digits : (s : Bytes) → length s ≡ 0 → digits s ≡ None
unfolding digits
no_digits s h = let g : length s ≤ 0 = omega arith in let e : s ≡ [] = drop_of_length-le s g in rw e

pub all_read : (s : Bytes) (at n : ℕ) → length s ≤ at → after n (drop at s) ≡ Some n
all_read s at n h = rw (drop_of_length-le s h, after_nil n)

module _ (s : Bytes) (most : ℕ) where
  pub none_left : length s ≡ 0 → at_most most (digits s) ≡ None
  unfolding at_most digits
  none_left h = let g : length s ≤ 0 = omega arith in let e : s ≡ [] = drop_of_length-le s g in rw e

  pub begins : 0 < length s → at_most most (after 0 s) ≡ at_most most (digits s)
  begins h = ap (at_most most) (sym (digits_after s h))

  pub ends : (n at : ℕ) → length s ≤ at → n ≤ most → at_most most (after n (drop at s)) ≡ Some n
  unfolding at_most
  ends n at h k = rw (drop_of_length-le s h, after_nil n, le-leb n most k)
