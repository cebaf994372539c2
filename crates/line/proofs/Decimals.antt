-- A number and an integer are read back from what is written of them.
use Rattle.std.specs.Prelude.{None, Some}
use Prim.Native.Nat.{ℕ, zero, suc, ◌+◌, ◌/◌, ◌%◌, ◌<◌, ◌≤◌}
use mathlib.Core.Path.{◌≡◌, refl, sym, ◌∙◌, ap}
use mathlib.Core.Bool.{true, false}
use mathlib.Core.List.{[], ◌∷◌}
use native.Mathlib.Omega.{arith}
use lib.IntN.{ℤ, pos, negsuc}
use lib.ListN.{length, get_or}
use borrow.Author.Tests.{lt-ltb, le-ltb, eq-eqb, ne_eqb}
use Rattle.base.specs.Bytes.{Bytes, is_digit, all, both, either}
use Rattle.base.proofs.Split.{no, by_lt, by_eq}
use Rattle.base.proofs.Lists.{all_cons, all_nil, all_head, all_tail}
use Rattle.integer.specs.Integer.{decimal, digits, integer}
use Rattle.integer.proofs.Digits.{digit_of, digit_is, digits_of, decimal_nil}
use Rattle.integer.proofs.Integers.{integer_digits}
use Rattle.text.specs.Escape.{breaks}
use Rattle.line.specs.Line.{plain_field}
use Rattle.line.specs.Decimal.{digits_before, number_text, integer_text}
use Rattle.line.proofs.Lines.{plain_nil, plain_cons}

-- ---- the digits of a number

-- they write the number, and what follows them stays
written : (k n : ℕ) (ds : Bytes) → decimal 0 (digits_before k n ds) ≡ decimal n ds
unfolding digits_before decimal
written zero n ds = ap (λ x. decimal x ds) (omega arith)
written (suc k) n ds =
    by_lt n 10
    (λ h. rw (lt-ltb n 10 h, digits_before) (ap (λ x. decimal x ds) (omega arith)))
    (λ h. rw (le-ltb n 10 h, digits_before) (written k _ _ ∙ ap (λ x. decimal x ds) (omega arith)))

pub last_digit : (k n : ℕ) (ds : Bytes) → n < 10 → digits_before (suc k) n ds ≡ (48 + n) ∷ ds
unfolding digits_before
last_digit k n ds h = rw (lt-ltb n 10 h, digits_before)

pub more_digits : (k n : ℕ) (ds : Bytes) → 10 ≤ n → digits_before (suc k) n ds ≡ digits_before k (n / 10) ((48 + n % 10) ∷ ds)
unfolding digits_before
more_digits k n ds h = rw (le-ltb n 10 h, digits_before)

-- where the bound is at least the number, only digits are written
only_digits : (k n : ℕ) (ds : Bytes) → n ≤ k → all is_digit ds ≡ true → all is_digit (digits_before k n ds) ≡ true
unfolding digits_before
only_digits zero n ds l h = all_cons is_digit (48 + n) ds (digit_of (48 + n) (omega arith) (omega arith)) h
only_digits (suc k) n ds l h =
    by_lt n 10
    (λ m. rw (last_digit k n ds m) (all_cons is_digit (48 + n) ds (digit_of (48 + n) (omega arith) (omega arith)) h))
    (λ m. rw (more_digits k n ds m)
    (only_digits k (n / 10) ((48 + n % 10) ∷ ds) (omega arith) (all_cons is_digit (48 + n % 10) ds (digit_of (48 + n % 10) (omega arith) (omega arith)) h)))

longer : (k n : ℕ) (ds : Bytes) → length ds < length (digits_before k n ds)
unfolding digits_before
longer zero n ds = omega arith
longer (suc k) n ds =
    by_lt n 10
    (λ h. rw (last_digit k n ds h) (omega arith))
    (λ h. rw (more_digits k n ds h) (omega (arith, longer k (n / 10) ((48 + n % 10) ∷ ds))))

-- the first digit is no zero, but for the number 0
first_digit : (k n : ℕ) (ds : Bytes) → n ≤ k → 0 < n → get_or (digits_before k n ds) 0 0 ≡ 48 → ⊥
unfolding digits_before
first_digit zero n ds l h e = omega arith
first_digit (suc k) n ds l h e =
    by_lt n 10
    (λ m. let q : 48 + n ≡ 48 = rw (last_digit k n ds m) at e in omega arith)
    (λ m. first_digit k (n / 10) ((48 + n % 10) ∷ ds) (omega arith) (omega arith) (rw (more_digits k n ds m) at e))

-- ---- numbers

module _ (n : ℕ) where
  pub number_digits : all is_digit (number_text n) ≡ true
  unfolding number_text
  number_digits = only_digits n n [] (omega arith) (all_nil is_digit)

  pub number_some : 0 < length (number_text n)
  unfolding number_text
  number_some = longer n n []

  pub number_value : decimal 0 (number_text n) ≡ n
  unfolding number_text
  number_value = written n n [] ∙ decimal_nil n

  -- no leading zeros
  pub number_first : 0 < n → get_or (number_text n) 0 0 ≡ 48 → ⊥
  unfolding number_text
  number_first h = first_digit n n [] (omega arith) h

  pub digits_number : digits (number_text n) ≡ Some n
  digits_number = digits_of (number_text n) number_some number_digits ∙ ap Some number_value

pub number_injective : (m n : ℕ) → number_text m ≡ number_text n → m ≡ n
number_injective m n e = sym (number_value m) ∙ ap (decimal 0) e ∙ number_value n

-- ---- integers

minus : (n : ℕ) → integer (45 ∷ number_text (suc n)) ≡ Some (negsuc n)
unfolding integer
minus n = rw (digits_number (suc n))

pub integer_read : (z : ℤ) → integer (integer_text z) ≡ Some z
unfolding integer_text
integer_read (pos n) = integer_digits (number_text n) (number_some n) (number_digits n) ∙ ap (λ x. Some (pos x)) (number_value n)
integer_read (negsuc n) = minus n

pub integer_injective : (y z : ℤ) → integer_text y ≡ integer_text z → y ≡ z
integer_injective y z e = cc (integer_read y, integer_read z)

-- what is no integer is not written
pub never : (z : ℤ) (s : Bytes) → integer s ≡ None → integer_text z ≡ s → ⊥
never z s h e = no (cc (integer_read z))

-- so a byte that is no digit is not written alone: no `?`, no `+`, no `-`
alone : (b : ℕ) → is_digit b ≡ false → integer (b ∷ []) ≡ None
unfolding integer digits all both
alone b h =
    by_eq b 43
    (λ p. rw (eq-eqb b 43 p))
    (λ p. by_eq b 45
    (λ q. rw (ne_eqb b 43 p, eq-eqb b 45 q))
    (λ q. rw (ne_eqb b 43 p, ne_eqb b 45 q, h)))

pub never_alone : (z : ℤ) (b : ℕ) → is_digit b ≡ false → integer_text z ≡ b ∷ [] → ⊥
never_alone z b h = never z (b ∷ []) (alone b h)

-- ---- both are fields of a line, and neither is empty

digit_plain : (b : ℕ) → is_digit b ≡ true → breaks b ≡ false
unfolding breaks either
digit_plain b h =
    let d = digit_is b h in
    rw (ne_eqb b 9 (λ e. omega arith), ne_eqb b 10 (λ e. omega arith), ne_eqb b 13 (λ e. omega arith))

digits_plain : (s : Bytes) → all is_digit s ≡ true → plain_field s ≡ true
digits_plain [] h = plain_nil
digits_plain (b ∷ s) h = plain_cons b s (digit_plain b (all_head is_digit b s h)) (digits_plain s (all_tail is_digit b s h))

pub number_plain : (n : ℕ) → plain_field (number_text n) ≡ true
number_plain n = digits_plain (number_text n) (number_digits n)

pub integer_plain : (z : ℤ) → plain_field (integer_text z) ≡ true
unfolding integer_text breaks either
integer_plain (pos n) = number_plain n
integer_plain (negsuc n) = plain_cons 45 (number_text (suc n)) refl (number_plain (suc n))
