-- The digits of a number one by one: before the last digit stand those of the number's tenth part.
use Prim.Native.Nat.{ℕ, zero, suc, ◌+◌, ◌*◌, ◌/◌, ◌%◌, ◌^◌, ◌<◌, ◌≤◌}
use mathlib.Core.Path.{◌≡◌, refl, sym, ◌∙◌, ap}
use mathlib.Core.List.{[], ◌∷◌, ◌++◌, append_assoc}
use native.Mathlib.Nat.{pow-suc, one-le-pow}
use native.Mathlib.Omega.{arith}
use lib.ListN.{length, length-append}
use borrow.Author.Tests.{lt-ltb}
use Rattle.base.specs.Bytes.{Bytes}
use Rattle.base.proofs.Split.{by_lt}
use Rattle.line.specs.Decimal.{digits_before, number_text}
use Rattle.line.proofs.Decimals.{more_digits}

single : (k n : ℕ) (ds : Bytes) → n < 10 → digits_before k n ds ≡ (48 + n) ∷ ds
unfolding digits_before
single zero n ds h = refl
single (suc k) n ds h = rw (lt-ltb n 10 h, digits_before)

-- what follows the digits stays apart, and any bound that is at least the number gives the same digits
apart : (j k n : ℕ) (ds : Bytes) → n ≤ j → n ≤ k → digits_before k n ds ≡ digits_before j n [] ++ ds
apart zero k n ds p q = let h : n < 10 = omega arith in rw (single k n ds h, single 0 n [] h)
apart (suc j) zero n ds p q = let h : n < 10 = omega arith in rw (single 0 n ds h, single (suc j) n [] h)
apart (suc j) (suc k) n ds p q =
    let d = 48 + n % 10 in
    by_lt n 10
    (λ h. rw (single (suc k) n ds h, single (suc j) n [] h))
    (λ h. rw (more_digits k n ds h, more_digits j n [] h, apart j k (n / 10) (d ∷ ds) (omega arith) (omega arith), apart j j (n / 10) (d ∷ []) (omega arith) (omega arith), append_assoc))

pub number_one : (n : ℕ) → n < 10 → number_text n ≡ (48 + n) ∷ []
unfolding number_text
number_one n h = single n n [] h

pub number_more : (n : ℕ) → 10 ≤ n → number_text n ≡ number_text (n / 10) ++ ((48 + n % 10) ∷ [])
unfolding number_text
number_more n h = go n (omega arith)
  where
    go : (k : ℕ) → n ≤ k → digits_before k n [] ≡ digits_before (n / 10) (n / 10) [] ++ ((48 + n % 10) ∷ [])
    go zero p = absurd (omega arith)
    go (suc k) p = more_digits k n [] h ∙ apart (n / 10) k (n / 10) ((48 + n % 10) ∷ []) (omega arith) (omega arith)

-- ---- how many they are

pub length_one : (n : ℕ) → n < 10 → length (number_text n) ≡ 1
length_one n h = ap length (number_one n h)

pub length_more : (n : ℕ) → 10 ≤ n → length (number_text n) ≡ length (number_text (n / 10)) + 1
length_more n h = ap length (number_more n h) ∙ length-append (number_text (n / 10)) ((48 + n % 10) ∷ [])

-- as many as the powers of ten up to the number tell
pub length_power : (k n : ℕ) → 10 ^ k ≤ n → n < 10 * 10 ^ k → length (number_text n) ≡ k + 1
length_power zero n l h = length_one n (omega arith)
length_power (suc k) n l h =
    let e : 10 ^ suc k ≡ 10 ^ k * 10 = pow-suc 10 k in
    let p : 1 ≤ 10 ^ k = one-le-pow k 10 (omega arith) in
    omega (arith, e, length_more n (omega arith), length_power k (n / 10) (omega arith) (omega arith))

-- at most so many
pub length_most : (k n : ℕ) → n < 10 * 10 ^ k → length (number_text n) ≤ k + 1
length_most zero n h = omega (arith, length_one n (omega arith))
length_most (suc k) n h =
    let e : 10 ^ suc k ≡ 10 ^ k * 10 = pow-suc 10 k in
    by_lt n 10
    (λ g. omega (arith, length_one n g))
    (λ g. omega (arith, e, length_more n g, length_most k (n / 10) (omega arith)))

-- ---- the low digits of a number, as many as are asked for

unfoldable pub low_digits : ℕ → ℕ → Bytes
low_digits zero n = []
low_digits (suc k) n = low_digits k (n / 10) ++ ((48 + n % 10) ∷ [])

pub low_none : (n : ℕ) → low_digits 0 n ≡ []
unfolding low_digits
low_none n = refl

pub low_more : (k n : ℕ) → low_digits (suc k) n ≡ low_digits k (n / 10) ++ ((48 + n % 10) ∷ [])
unfolding low_digits
low_more k n = refl

pub length_low : (k n : ℕ) → length (low_digits k n) ≡ k
length_low zero n = ap length (low_none n)
length_low (suc k) n = ap length (low_more k n) ∙ (length-append (low_digits k (n / 10)) ((48 + n % 10) ∷ []) ∙ omega (arith, length_low k (n / 10)))

-- all digits of a number are as many low digits as it has
low_short : (n : ℕ) → n < 10 → low_digits (length (number_text n)) n ≡ number_text n
low_short n h = let d : n % 10 ≡ n = omega arith in rw (length_one n h, number_one n h, low_more 0 n, low_none, d)

low_within : (b n : ℕ) → n ≤ b → low_digits (length (number_text n)) n ≡ number_text n
low_within zero n p = low_short n (omega arith)
low_within (suc b) n p =
    by_lt n 10
    (λ h. low_short n h)
    (λ h. let l : length (number_text n) ≡ suc (length (number_text (n / 10))) = omega (arith, length_more n h) in
    rw (l, low_more, low_within b (n / 10) (omega arith)) (sym (number_more n h)))

pub low_all : (n : ℕ) → low_digits (length (number_text n)) n ≡ number_text n
low_all n = low_within n n (omega arith)
