-- A text read by its sign and its first point: the number of a few digits, and the exact degrees as a sign and a size.
use Rattle.std.specs.Prelude.{Ok, Err, None, Option, Some, option_map}
use Prim.Native.Nat.{ℕ, zero, suc, ◌+◌, ◌-◌, ◌*◌, ◌/◌, ◌^◌, ◌<◌, ◌≤◌}
use mathlib.Core.Path.{◌≡◌, refl, sym, ◌∙◌, ap}
use mathlib.Core.Bool.{Bool, true, false, cond}
use mathlib.Core.List.{[], ◌∷◌}
use native.Mathlib.Omega.{arith}
use Rattle.std.proofs.Math.Nat.{mul-lt-mul_of_pos_right, one-le-pow, pow-le-pow_right}
use lib.Pow.{pow-add}
use lib.Dec.{leb}
use lib.IntN.{pos, neg_ℤ, nat_abs, ◌-ℤ◌}
use mir.Syntax.{w32}
use mir.Val.{of_z, to_z}
use mir.Facts.{to_z_pos}
use lib.ListN.{length, get_or, take, drop}
use borrow.Author.Tests.{le-leb, lt-leb, leb-true, eq-eqb, ne_eqb}
use Rattle.std.proofs.lemmas.Int.{ints}
use Rattle.base.specs.Bytes.{Bytes, is_digit, all, both}
use Rattle.base.proofs.Split.{no, by_bool, by_eq, both_right, both_no_right, both_true}
use Rattle.integer.specs.Integer.{decimal, digits}
use Rattle.integer.specs.Bounded.{at_most}
use Rattle.integer.proofs.Digits.{digits_below}
use Rattle.degrees.specs.Degrees.{Sign, unsigned, plus, minus, DegreeParts, one_to, legal_degrees, with_sign, exact_of, parts_behind, parts_of, exact_if, exact_degrees}
use Rattle.degrees.specs.declared.Axis.{Axis}
use Rattle.degrees.specs.declared.Axis.TheVariants.{Latitude, Longitude}
use Rattle.degrees.specs.declared.DegreesError.TheVariants.{NotDegrees, OutOfRange}
use Rattle.degrees.specs.declared.ExactDegrees.{ExactDegrees}
use Rattle.degrees.specs.Nearest.{nearest, most_degrees, read_degrees}
use Rattle.degrees.specs.Exact.{digits_to, size_if, size_of, exact_in}

-- ---- one to so many digits

module _ (most : ℕ) (s : Bytes) where
  pub digits_long : most < length s → digits_to most s ≡ None
  unfolding digits_to
  digits_long h = rw (both_no_right (all is_digit s) (both_no_right (leb 1 (length s)) (lt-leb (length s) most h)))

  -- what a number of so many digits says of its text
  pub digits_to_is : {n : ℕ} → digits_to most s ≡ Some n → (one_to most s ≡ true) × (decimal 0 s ≡ n)
  unfolding digits_to
  digits_to_is {n} e =
      by_bool (one_to most s)
      (λ t. let w : Some (decimal 0 s) ≡ Some n = rw t at e in (t, cc))
      (λ t. let w : None ≡ Some n = rw t at e in no (cc))

pub digits_short : (most : ℕ) (s : Bytes) → length s ≤ most → digits_to most s ≡ digits s
unfolding digits_to digits both
digits_short most [] h = by_bool (all is_digit []) (λ t. rw t) (λ t. rw t)
digits_short most (b ∷ s) h =
    rw (le-leb 1 (length (b ∷ s)) (omega arith), le-leb (length (b ∷ s)) most h, both_true (all is_digit (b ∷ s)))

-- at most twelve digits write a number below 10 ^ 12, which the code need not bound
pub digits_fit : (most : ℕ) (s : Bytes) {n : ℕ} → digits_to most s ≡ Some n → (length s ≤ most) × (n < 10 ^ length s)
digits_fit most s {n} e =
    let t = digits_to_is most s e in
    let l : length s ≤ most = leb-true (length s) most (both_right _ _ (both_right _ _ t.0)) in
    (l, digits_below s (sym (digits_short most s l) ∙ e))

power_split : (k : ℕ) → k ≤ 12 → 10 ^ k * 10 ^ (12 - k) ≡ 10 ^ 12
power_split k h = let e : k + (12 - k) ≡ 12 = omega arith in sym (pow-add 10 k (12 - k)) ∙ ap (λ x. 10 ^ x) e

power_some : (k : ℕ) → 0 < 10 ^ k
power_some k = one-le-pow k 10 (omega arith)

-- the digits behind a point are less than one degree
pub decimals_fit : (s : Bytes) {n : ℕ} → digits_to 12 s ≡ Some n → n * 10 ^ (12 - length s) < 10 ^ 12
decimals_fit s {n} e =
    let f = digits_fit 12 s e in
    rw (power_split (length s) f.0) at (mul-lt-mul_of_pos_right {k = 10 ^ (12 - length s)} f.1 (power_some (12 - length s)))

-- and those before it at most 999 degrees
pub whole_fits : (s : Bytes) {n : ℕ} → digits_to 3 s ≡ Some n → n < 1000
whole_fits s {n} e =
    let f = digits_fit 3 s e in
    let p : 10 ^ length s ≤ 10 ^ 3 = pow-le-pow_right {n = 10} (omega arith) {i = length s} {j = 3} f.0 in
    omega (arith, f.1, p)

-- an answer of those behind it, as the code holds it
pub part_fits : (s : Bytes) {n : ℕ} → option_map (λ n. n * 10 ^ (12 - length s)) (digits_to 12 s) ≡ Some n → n < 1000000000000
part_fits s {n} e = go (digits_to 12 s) refl e
  where
    go : (o : Option ℕ) → digits_to 12 s ≡ o → option_map (λ n. n * 10 ^ (12 - length s)) o ≡ Some n → n < 1000000000000
    go None p q = no (cc)
    go (Some k) p q = let r : k * 10 ^ (12 - length s) ≡ n = cc in rw r at (decimals_fit s p)

-- what the code's reader of digits gives
pub read_short : (most : ℕ) (s : Bytes) → length s ≤ most → most ≤ 12 → at_most 18446744073709551615 (digits s) ≡ digits_to most s
unfolding at_most
read_short most s h k = sym (ap (at_most 18446744073709551615) (digits_short most s h)) ∙ go (digits_to most s) refl
  where
    go : (o : Option ℕ) → digits_to most s ≡ o → at_most 18446744073709551615 o ≡ o
    go None e = refl
    go (Some n) e =
        let f = digits_fit most s e in
        let p : 10 ^ length s ≤ 10 ^ 12 = pow-le-pow_right {n = 10} (omega arith) {i = length s} {j = 12} (omega arith) in
        rw (le-leb n 18446744073709551615 (omega arith))

-- ---- the first point

module _ (g : Sign) where
  pub point_at : (s : Bytes) (i : ℕ) → i < length s → get_or s i 0 ≡ 46 → ((k : ℕ) → k < i → get_or s k 0 ≡ 46 → ⊥)
      → parts_behind g s ≡ record { sign = g; whole = take i s; decimals = Some (drop (suc i) s) }
  unfolding parts_behind
  point_at [] i h e n = no (omega arith)
  point_at (b ∷ s) zero h e n = rw (eq-eqb b 46 e)
  point_at (b ∷ s) (suc i) h e n = rw (ne_eqb b 46 (n 0 (omega arith)), point_at s i (omega arith) e (λ k l. n (suc k) (omega arith)))

  pub no_point : (s : Bytes) → ((k : ℕ) → k < length s → get_or s k 0 ≡ 46 → ⊥) → parts_behind g s ≡ record { sign = g; whole = s; decimals = None }
  unfolding parts_behind
  no_point [] n = refl
  no_point (b ∷ s) n = rw (ne_eqb b 46 (n 0 (omega arith)), no_point s (λ k l. n (suc k) (omega arith)))

-- ---- the size of a text

-- a text without a point
whole_size : (s : Bytes) → size_if (record { sign = unsigned; whole = s; decimals = None }) ≡ option_map (λ n. n * 10 ^ 12) (digits_to 3 s)
unfolding legal_degrees digits_to
whole_size s =
    rw (both_true (one_to 3 s)) (by_bool (one_to 3 s)
    (λ t. rw t (ap Some (omega arith)))
    (λ t. rw t))

pub size_whole : (s : Bytes) → ((k : ℕ) → k < length s → get_or s k 0 ≡ 46 → ⊥) → size_of s ≡ option_map (λ n. n * 10 ^ 12) (digits_to 3 s)
unfolding size_of
size_whole s n = ap size_if (no_point unsigned s n) ∙ whole_size s

-- a text with one
abbrev pub joined_size : Option ℕ → Option ℕ → Option ℕ
joined_size None p = None
joined_size (Some w) None = None
joined_size (Some w) (Some p) = Some (w * 10 ^ 12 + p)

both_sizes : (w d : Bytes) → size_if (record { sign = unsigned; whole = w; decimals = Some d })
    ≡ joined_size (digits_to 3 w) (option_map (λ n. n * 10 ^ (12 - length d)) (digits_to 12 d))
unfolding legal_degrees digits_to both
both_sizes w d =
    by_bool (one_to 3 w)
    (λ t. by_bool (one_to 12 d) (λ u. rw (t, u)) (λ u. rw (t, u)))
    (λ t. rw t)

pub size_parted : (s : Bytes) (i : ℕ) → i < length s → get_or s i 0 ≡ 46 → ((k : ℕ) → k < i → get_or s k 0 ≡ 46 → ⊥)
    → size_of s ≡ joined_size (digits_to 3 (take i s)) (option_map (λ n. n * 10 ^ (12 - length (drop (suc i) s))) (digits_to 12 (drop (suc i) s)))
unfolding size_of
size_parted s i h e n = ap size_if (point_at unsigned s i h e n) ∙ both_sizes (take i s) (drop (suc i) s)

-- ---- the exact degrees of a text, by its first byte

under_sign : Sign → DegreeParts → DegreeParts
under_sign g p = record { sign = g; whole = p.whole; decimals = p.decimals }

behind_sign : (g : Sign) (s : Bytes) → parts_behind g s ≡ under_sign g (parts_behind unsigned s)
unfolding parts_behind under_sign
behind_sign g [] = refl
behind_sign g (b ∷ s) = by_eq b 46 (λ e. rw (eq-eqb b 46 e)) (λ n. rw (ne_eqb b 46 n, behind_sign g s))

exact_size : (g : Sign) (p : DegreeParts) → exact_if (under_sign g p) ≡ option_map (with_sign g) (size_if p)
unfolding exact_of under_sign legal_degrees
exact_size g p = by_bool (legal_degrees p) (λ t. rw t) (λ t. rw t)

exact_behind : (g : Sign) (s : Bytes) → exact_if (parts_behind g s) ≡ option_map (with_sign g) (size_of s)
unfolding size_of
exact_behind g s = ap exact_if (behind_sign g s) ∙ exact_size g (parts_behind unsigned s)

pub exact_plus : (s : Bytes) → 0 < length s → get_or s 0 0 ≡ 43 → exact_degrees s ≡ option_map pos (size_of (drop 1 s))
unfolding exact_degrees parts_of
exact_plus [] l h = no (omega arith)
exact_plus (b ∷ s) l h = rw (eq-eqb b 43 h) (exact_behind plus s)

pub exact_minus : (s : Bytes) → 0 < length s → get_or s 0 0 ≡ 45 → exact_degrees s ≡ option_map (λ n. neg_ℤ (pos n)) (size_of (drop 1 s))
unfolding exact_degrees parts_of
exact_minus [] l h = no (omega arith)
exact_minus (b ∷ s) l h = rw (ne_eqb b 43 (λ q. omega arith), eq-eqb b 45 h) (exact_behind minus s)

pub exact_plain : (s : Bytes) → 0 < length s → (get_or s 0 0 ≡ 43 → ⊥) → (get_or s 0 0 ≡ 45 → ⊥) → exact_degrees s ≡ option_map pos (size_of s)
unfolding exact_degrees parts_of
exact_plain [] l h k = no (omega arith)
exact_plain (b ∷ s) l h k = rw (ne_eqb b 43 h, ne_eqb b 45 k) (exact_behind unsigned (b ∷ s))

pub exact_empty : (s : Bytes) → length s ≡ 0 → exact_degrees s ≡ None
unfolding exact_degrees parts_of parts_behind legal_degrees both all
exact_empty [] h = refl
exact_empty (b ∷ s) h = no (omega arith)

-- what the code holds of it
pub held_plus : (o : Option ℕ) → option_map exact_in (option_map (λ n. record { negative = false; size = n }) o) ≡ option_map pos o
held_plus None = refl
held_plus (Some n) = refl

pub held_minus : (o : Option ℕ) → option_map exact_in (option_map (λ n. record { negative = true; size = n }) o) ≡ option_map (λ n. neg_ℤ (pos n)) o
held_minus None = refl
held_minus (Some n) = refl

-- ---- a coordinate's text

module _ (a : Axis) where
  pub not_degrees : (s : Bytes) (o : Option ExactDegrees) → option_map exact_in o ≡ exact_degrees s → o ≡ None → Err NotDegrees ≡ read_degrees a s
  unfolding read_degrees
  not_degrees s o e q = rw (← e, q)

  module _ (s : Bytes) (x : ExactDegrees) (e : option_map exact_in (Some x) ≡ exact_degrees s) where
    side_size : nat_abs (exact_in x) ≡ x.size
    side_size = go x.negative x.size
      where
        sized : (n : ℕ) → nat_abs (neg_ℤ (pos n)) ≡ n
        sized zero = refl
        sized (suc n) = refl

        go : (t : Bool) (n : ℕ) → nat_abs (cond t (neg_ℤ (pos n)) (pos n)) ≡ n
        go true n = sized n
        go false n = refl

    pub out_of_range : most_degrees a < x.size → Err OutOfRange ≡ read_degrees a s
    unfolding read_degrees
    out_of_range h = rw (← e, side_size, lt-leb x.size (most_degrees a) h)

    pub in_range : x.size ≤ most_degrees a → Ok (nearest (exact_in x)) ≡ read_degrees a s
    unfolding read_degrees
    in_range h = rw (← e, side_size, le-leb x.size (most_degrees a) h)

pub most_bound : (a : Axis) → most_degrees a ≤ 180000000000000
most_bound Latitude = omega arith
most_bound Longitude = omega arith

-- ---- the nearest 1e-7 degree of a size and a sign, in 32 bits

module _ (n : ℕ) (h : n ≤ 180000000000000) where
  pub nearest_plus : to_z w32 ((n + 50000) / 100000) ≡ nearest (pos n)
  unfolding nearest
  nearest_plus = to_z_pos w32 (omega (arith, h))

  pub nearest_minus : to_z w32 (of_z w32 (pos 0 -ℤ to_z w32 ((n + 50000) / 100000))) ≡ nearest (neg_ℤ (pos n))
  unfolding nearest
  nearest_minus = ap (λ z. to_z w32 (of_z w32 (pos 0 -ℤ z))) (to_z_pos w32 small) ∙ go ((n + 50000) / 100000) refl ∙ sides n
    where
      small : (n + 50000) / 100000 < 2 ^ 31
      small = omega (arith, h)

      sides : (n : ℕ) → neg_ℤ (pos ((n + 50000) / 100000)) ≡ nearest (neg_ℤ (pos n))
      sides zero = refl
      sides (suc n) = refl

      go : (k : ℕ) → (n + 50000) / 100000 ≡ k → to_z w32 (of_z w32 (pos 0 -ℤ pos k)) ≡ neg_ℤ (pos k)
      go k e = omega (arith, ints, small)
