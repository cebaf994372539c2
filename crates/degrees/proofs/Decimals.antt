-- A whole number of 1e-7 degree that is written with seven decimals is read as it was.
use Rattle.std.specs.Prelude.{Some, Ok}
use Prim.Native.Nat.{ℕ, zero, suc, ◌+◌, ◌*◌, ◌/◌, ◌%◌, ◌^◌, ◌<◌, ◌≤◌}
use mathlib.Core.Path.{◌≡◌, refl, sym, ◌∙◌, ap}
use mathlib.Core.Bool.{true}
use mathlib.Core.List.{[], ◌∷◌}
use native.Mathlib.Omega.{arith}
use native.Mathlib.Nat.{pow-suc}
use lib.IntN.{ℤ, pos, negsuc, nat_abs, ◌*ℤ◌}
use lib.ListN.{length}
use Rattle.std.proofs.Common.{length-append}
use borrow.Author.Tests.{le-leb}
use Rattle.std.proofs.lemmas.Int.{ints}
use Rattle.base.specs.Bytes.{Bytes, is_digit, all}
use Rattle.base.proofs.Split.{both_of, by_lt}
use Rattle.base.proofs.Lists.{all_append, all_cons, all_nil}
use Rattle.integer.specs.Integer.{decimal}
use Rattle.integer.proofs.Digits.{digit_of, decimal_append}
use Rattle.line.specs.Decimal.{digits_before, number_text}
use Rattle.line.proofs.Decimals.{last_digit, more_digits, number_digits, number_some, number_value}
use Rattle.degrees.specs.declared.Axis.{Axis}
use Rattle.degrees.specs.Degrees.{Sign, unsigned, minus, DegreeParts, legal_degrees, parts_text, with_sign, exact_of}
use Rattle.degrees.specs.Nearest.{most_degrees, read_degrees}
use Rattle.degrees.specs.Decimals.{last_digits, degrees_text}
use Rattle.degrees.proofs.Texts.{DegreesWritten}
use Rattle.degrees.proofs.Rounding.{nearest_whole}
use Rattle.degrees.proofs.Sizes.{most_bound}
use Rattle.degrees.proofs.Reading.{read_ok}

-- ---- so many digits of a number

pub last_length : (k n : ℕ) → length (last_digits k n) ≡ k
unfolding last_digits
last_length zero n = refl
last_length (suc k) n = omega (arith, length-append (last_digits k (n / 10)) ((48 + n % 10) ∷ []), last_length k (n / 10))

pub last_all : (k n : ℕ) → all is_digit (last_digits k n) ≡ true
unfolding last_digits
last_all zero n = all_nil is_digit
last_all (suc k) n =
    all_append is_digit (last_digits k (n / 10)) ((48 + n % 10) ∷ []) (last_all k (n / 10))
    (all_cons is_digit (48 + n % 10) [] (digit_of (48 + n % 10) (omega arith) (omega arith)) (all_nil is_digit))

pub last_value : (k n : ℕ) → n < 10 ^ k → decimal 0 (last_digits k n) ≡ n
unfolding last_digits decimal
last_value zero n h = omega arith
last_value (suc k) n h =
    let p : n < 10 ^ k * 10 = rw pow-suc at h in
    let e = last_value k (n / 10) (omega arith) in
    decimal_append 0 (last_digits k (n / 10)) ((48 + n % 10) ∷ []) ∙ omega (arith, e)

-- ---- the digits before the point

shorter : (j k n : ℕ) (ds : Bytes) → n ≤ k → n < 10 ^ suc j → length (digits_before k n ds) ≤ suc j + length ds
unfolding digits_before
shorter j zero n ds l h = omega arith
shorter zero (suc k) n ds l h = rw (last_digit k n ds (omega arith)) (omega arith)
shorter (suc j) (suc k) n ds l h =
    by_lt n 10
    (λ m. rw (last_digit k n ds m) (omega arith))
    (λ m.
    let p : n < 10 ^ suc j * 10 = rw pow-suc at h in
    rw (more_digits k n ds m) (omega (arith, shorter j k (n / 10) ((48 + n % 10) ∷ ds) (omega arith) (omega arith))))

number_short : (n : ℕ) → n < 1000 → length (number_text n) ≤ 3
unfolding number_text
number_short n h = shorter 2 n n [] (omega arith) (omega arith)

-- ---- degrees

abbrev decimal_parts : Sign → ℕ → DegreeParts
decimal_parts g n = record { sign = g; whole = number_text (n / 10 ^ 7); decimals = Some (last_digits 7 (n % 10 ^ 7)) }

parts_legal : (g : Sign) (n : ℕ) → n < 10 ^ 10 → legal_degrees (decimal_parts g n) ≡ true
unfolding legal_degrees
parts_legal g n h =
    let w = number_text (n / 10 ^ 7) in
    let d = last_digits 7 (n % 10 ^ 7) in
    both_of
    (both_of (number_digits (n / 10 ^ 7)) (both_of (le-leb 1 (length w) (number_some (n / 10 ^ 7))) (le-leb (length w) 3 (number_short (n / 10 ^ 7) (omega arith)))))
    (both_of (last_all 7 (n % 10 ^ 7)) (both_of (le-leb 1 (length d) (omega (arith, last_length 7 (n % 10 ^ 7)))) (le-leb (length d) 12 (omega (arith, last_length 7 (n % 10 ^ 7))))))

parts_exact : (g : Sign) (n : ℕ) → exact_of (decimal_parts g n) ≡ with_sign g (100000 * n)
unfolding exact_of
parts_exact g n =
    ap (with_sign g) (rw (number_value (n / 10 ^ 7), last_length 7 (n % 10 ^ 7), last_value 7 (n % 10 ^ 7) (omega arith)) (omega arith))

-- "degrees with seven decimals"
pub decimals_written : (z : ℤ) → nat_abs z < 10 ^ 10 → DegreesWritten (degrees_text z) (pos 100000 *ℤ z)
unfolding degrees_text parts_text
decimals_written (pos n) h = record {
  parts = decimal_parts unsigned n;
  legal = parts_legal unsigned n h;
  text = refl;
  exact = sym (parts_exact unsigned n);
}
decimals_written (negsuc n) h = record {
  parts = decimal_parts minus (suc n);
  legal = parts_legal minus (suc n) h;
  text = refl;
  exact = omega (arith, ints) ∙ sym (parts_exact minus (suc n));
}

pub decimals_read : (a : Axis) (z : ℤ) → 100000 * nat_abs z ≤ most_degrees a → read_degrees a (degrees_text z) ≡ Ok z
decimals_read a z h =
    let x = pos 100000 *ℤ z in
    let e : nat_abs x ≡ 100000 * nat_abs z = omega (arith, ints) in
    (read_ok a (degrees_text z) z).1 (x, (decimals_written z (omega (arith, most_bound a)), omega arith, sym (nearest_whole z)))
