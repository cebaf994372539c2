-- Digits of two and four places: written, and read back.
use Rattle.std.specs.Prelude.{Some}
use Prim.Native.Nat.{ℕ, suc, ◌+◌, ◌-◌, ◌*◌, ◌/◌, ◌%◌, ◌<◌, ◌≤◌}
use mathlib.Core.Path.{◌≡◌, refl, ap, ◌∙◌}
use mathlib.Core.Bool.{true}
use mathlib.Core.List.{[], ◌∷◌, ◌++◌}
use native.Mathlib.Omega.{arith}
use lib.ListN.{length, get_or, take, drop, length-take, length-drop, take-append-drop}
use lib.Seq.{split_at, get_or-drop, drop-drop}
use Rattle.base.specs.Bytes.{Bytes, all, is_digit}
use Rattle.base.proofs.Split.{both_of, no}
use Rattle.base.proofs.Lists.{all_head, all_tail, all_left, all_right}
use Rattle.integer.specs.Integer.{decimal, digits}
use Rattle.integer.proofs.Digits.{decimal_append, digit_of, digit_is, digits_of, digits_is}
use Rattle.rfc3339.specs.Rfc3339.{two, four}

module _ (n : ℕ) where
  two_after : (k : ℕ) → decimal k (two n) ≡ k * 100 + n
  unfolding two decimal
  two_after k = omega arith

  pub two_reads : decimal 0 (two n) ≡ n
  two_reads = omega (arith, two_after 0)

  two_all : n < 100 → all is_digit (two n) ≡ true
  unfolding two all
  two_all h = both_of (digit_of (48 + n / 10) (omega arith) (omega arith)) (both_of (digit_of (48 + n % 10) (omega arith) (omega arith)) refl)

  pub two_digits : n < 100 → digits (two n) ≡ Some n
  unfolding two
  two_digits h = digits_of (two n) (omega arith) (two_all h) ∙ ap Some two_reads

  -- the first two places and the last two
  halves : four n ≡ two (n / 100) ++ two (n % 100)
  unfolding four two
  halves =
      let a : n / 1000 ≡ n / 100 / 10 = omega arith in
      let b : n / 10 % 10 ≡ n % 100 / 10 = omega arith in
      let d : n % 10 ≡ n % 100 % 10 = omega arith in
      cc

four_reads : (n : ℕ) → decimal 0 (four n) ≡ n
four_reads n =
    rw (halves n, decimal_append 0 (two (n / 100)) (two (n % 100)), two_reads (n / 100), two_after (n % 100) (n / 100)) (omega arith)

four_all : (n : ℕ) → n < 10000 → all is_digit (four n) ≡ true
unfolding four all
four_all n h =
    both_of (digit_of (48 + n / 1000) (omega arith) (omega arith))
    (both_of (digit_of (48 + n / 100 % 10) (omega arith) (omega arith))
    (both_of (digit_of (48 + n / 10 % 10) (omega arith) (omega arith))
    (both_of (digit_of (48 + n % 10) (omega arith) (omega arith)) refl)))

pub four_digits : (n : ℕ) → n < 10000 → digits (four n) ≡ Some n
unfolding four
four_digits n h = digits_of (four n) (omega arith) (four_all n h) ∙ ap Some (four_reads n)

two_spelled : (s : Bytes) → length s ≡ 2 → all is_digit s ≡ true → (s ≡ two (decimal 0 s)) × (decimal 0 s < 100)
unfolding two decimal
two_spelled [] l h = no (omega arith)
two_spelled (a ∷ []) l h = no (omega arith)
two_spelled (a ∷ b ∷ []) l h =
    let p = digit_is a (all_head is_digit a (b ∷ []) h) in
    let q = digit_is b (all_head is_digit b [] (all_tail is_digit a (b ∷ []) h)) in
    let n : ℕ = (0 * 10 + (a - 48)) * 10 + (b - 48) in
    let d : a ≡ 48 + n / 10 = omega arith in
    let e : b ≡ 48 + n % 10 = omega arith in
    (cc, omega arith)
two_spelled (a ∷ b ∷ c ∷ s) l h = no (omega arith)

joined : (u v : Bytes) → length u ≡ 2 → length v ≡ 2 → all is_digit (u ++ v) ≡ true → u ++ v ≡ four (decimal 0 (u ++ v))
joined u v l m h =
    let p = two_spelled u l (all_left is_digit u v h) in
    let q = two_spelled v m (all_right is_digit u v h) in
    let n : ℕ = decimal 0 (u ++ v) in
    let later : decimal (decimal 0 u) v ≡ decimal 0 u * 100 + decimal 0 v = ap (decimal (decimal 0 u)) q.0 ∙ two_after (decimal 0 v) (decimal 0 u) in
    let e : n ≡ decimal 0 u * 100 + decimal 0 v = decimal_append 0 u v ∙ later in
    let f : n / 100 ≡ decimal 0 u = omega arith in
    let g : n % 100 ≡ decimal 0 v = omega arith in
    cc (halves n)

four_spelled : (s : Bytes) → length s ≡ 4 → all is_digit s ≡ true → s ≡ four (decimal 0 s)
four_spelled s l h =
    rw take-append-drop at
    (joined (take 2 s) (drop 2 s) (rw length-take (omega arith)) (rw length-drop (omega arith)) (rw take-append-drop h))

-- two and four digits are those of their number
module _ (s : Bytes) {n : ℕ} (e : digits s ≡ Some n) where
  pub two_back : length s ≡ 2 → s ≡ two n
  two_back l = (two_spelled s l (digits_is s e).1.0).0 ∙ ap two (digits_is s e).1.1

  pub four_back : length s ≡ 4 → s ≡ four n
  four_back l = four_spelled s l (digits_is s e).1.0 ∙ ap four (digits_is s e).1.1

-- ---- a field of a text

pub field_length : (s : Bytes) (from count : ℕ) → from + count ≤ length s → length (take count (drop from s)) ≡ count
field_length s from count l = rw (length-take, length-drop) (omega arith)

-- a field, the byte after it, and the rest
pub field_splits : (s : Bytes) (from count : ℕ) → from + count < length s → drop from s ≡ take count (drop from s) ++ (get_or s (from + count) 0 ∷ drop (from + suc count) s)
field_splits s from count l =
    split_at (drop from s) count 0 (rw length-drop (omega arith)) ∙ rw (get_or-drop, drop-drop)
