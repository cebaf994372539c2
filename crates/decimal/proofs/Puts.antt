-- What a writer leaves: for the writers here, byte by byte; for their callers, by its answer.
use Rattle.std.specs.Prelude.{None, Some}
use Prim.Native.Nat.{ℕ, zero, suc, ◌+◌, ◌-◌, ◌/◌, ◌%◌, ◌^◌, ◌<◌, ◌≤◌}
use mathlib.Core.Path.{◌≡◌, refl, sym, ◌∙◌, ap}
use mathlib.Core.Bool.{Bool, true, false}
use mathlib.Core.List.{[], ◌∷◌, ◌++◌, append-nil}
use native.Mathlib.Nat.{suc-add, zero-add}
use native.Mathlib.Omega.{arith}
use lib.IntN.{ℤ, pos, negsuc, nat_abs}
use lib.Signed.{lt_z}
use lib.ListN.{length, set, length-set, drop_of_length-le}
use lib.Seq.{drop-drop}
use borrow.Rule.Slice.PartMut.{put_mid}
use mir.Syntax.{Width}
use mir.Val.{to_z, bits, hbits, bool_byte}
use mir.Facts.{to_z_pos}
use borrow.Author.Tests.{le-leb, lt-leb, le-ltb}
use Rattle.base.specs.Bytes.{Bytes}
use Rattle.line.specs.Decimal.{number_text, integer_text}
use Rattle.little.specs.Little.{over}
use Rattle.little.proofs.Overs.{over_here, over_later, over_nothing, over_step, over_start, over_fits}
use Rattle.decimal.specs.Put.{Wrote, put_text, signed_text}
use Rattle.decimal.proofs.Numbers.{low_digits, low_none, low_more, low_all, length_low}

-- ---- digits from the last to the first

-- the last byte stored, and then those before it
over_last : (s : Bytes) (at : ℕ) (t : Bytes) (b : ℕ) → at + length t < length s → over (set s (at + length t) b) at t ≡ over s at (t ++ (b ∷ []))
over_last [] at t b h = absurd (omega arith)
over_last (x ∷ s) zero [] b h = simp (over_nothing, over_here)
over_last (x ∷ s) zero (d ∷ t) b h = simp (zero-add, over_here) (ap (d ∷◌) (rw zero-add at (over_last s 0 t b (omega arith))))
over_last (x ∷ s) (suc at) t b h = rw (suc-add, over_later, over_later) (ap (x ∷◌) (over_last s at t b (omega arith)))

-- the last of the low digits that are still to be written is stored
pub digit_stored : (s : Bytes) (at k n : ℕ) → at + k < length s → over (set s (at + k) (48 + n % 10)) at (low_digits k (n / 10)) ≡ over s at (low_digits (suc k) n)
digit_stored s at k n h =
    let l = length_low k (n / 10) in
    let e = over_last s at (low_digits k (n / 10)) (48 + n % 10) (rw l h) in
    rw low_more (rw l at e)

-- where one is still to be written
pub one_stored : (s : Bytes) (at n : ℕ) → at < length s → set s at (48 + n % 10) ≡ over s at (low_digits 1 n)
one_stored s at n h = rw (low_more 0 n, low_none (n / 10), over_step s at (48 + n % 10) [] h, over_nothing)

-- the last two of them, given as the number below 100 that they make, at their two places
pub two_stored : (s : Bytes) (at k n d p q : ℕ) → at + suc k < length s → d ≡ n % 100 → p ≡ at + suc k → q ≡ at + k
    → over (set (set s p (48 + d % 10)) q (48 + d / 10)) at (low_digits k (n / 100)) ≡ over s at (low_digits (suc (suc k)) n)
two_stored s at k n d p q h e i j =
    let c : n / 100 ≡ n / 10 / 10 = omega arith in
    let a : d / 10 ≡ n / 10 % 10 = omega arith in
    let b : d % 10 ≡ n % 10 = omega arith in
    rw (c, a, b, i, j)
    (digit_stored (set s (at + suc k) (48 + n % 10)) at k (n / 10) (simp length-set (omega arith)) ∙ digit_stored s at (suc k) n (omega arith))

-- over all of the bytes
pub over_all : (s t : Bytes) → length s ≡ length t → over s 0 t ≡ t
over_all s t e = over_start s t (omega arith) ∙ (ap (t ++◌) (drop_of_length-le s (omega arith)) ∙ append-nil t)

pub all_digits : (s : Bytes) (n : ℕ) → length s ≡ length (number_text n) → over s 0 (low_digits (length s) n) ≡ number_text n
all_digits s n e = ap (over s 0) (rw e (low_all n)) ∙ over_all s (number_text n) e

-- digits written over a part that is lent, as the borrow checker says it: `last` is what is left of the part
pub lent_part : (s last t : Bytes) (at k : ℕ) → at + k ≤ length s → k ≡ length t → last ≡ t → put_mid at k s last ≡ over s at t
lent_part s last t at k h e f = rw (f, drop-drop k at s, e) (sym (over_fits s at t (omega arith)))

-- ---- what is written, whole or not at all

module _ (s t : Bytes) where
  pub put_whole : length t ≤ length s → put_text s t ≡ record { bytes = over s 0 t; answer = Some (length t) }
  unfolding put_text
  put_whole h = rw (le-leb (length t) (length s) h)

  pub put_nothing : length s < length t → put_text s t ≡ record { bytes = s; answer = None }
  unfolding put_text
  put_nothing h = rw (lt-leb (length t) (length s) h)

  -- of a writer that left the bytes `left`
  module _ (left : Bytes) where
    pub whole : (n : ℕ) → n ≤ length s → n ≡ length t → left ≡ over s 0 t → ◌≡◌ {A = Wrote} (record { bytes = left; answer = Some n }) (put_text s t)
    whole n h e f = rw (put_whole (rw e at h)) (cc)

-- ---- integers by their bits, at any width

module _ (w : Width) where
  pub not_negative : (b : ℕ) → b < 2 ^ hbits w → integer_text (to_z w b) ≡ number_text b
  unfolding integer_text
  not_negative b h = ap integer_text (to_z_pos w h)

  pub negative : (b : ℕ) → 2 ^ hbits w ≤ b → b < 2 ^ bits w → integer_text (to_z w b) ≡ 45 ∷ number_text (2 ^ bits w - 1 - b + 1)
  unfolding integer_text
  negative b h g =
      let z : to_z w b ≡ negsuc (2 ^ bits w - suc b) = rw (le-ltb b (2 ^ hbits w) h) in
      let m : suc (2 ^ bits w - suc b) ≡ 2 ^ bits w - 1 - b + 1 = omega arith in
      ap integer_text z ∙ ap (λ x. 45 ∷ number_text x) m

-- ---- a number with its sign

pub sign_most : (minus : Bool) → bool_byte minus ≤ 1
sign_most true = omega arith
sign_most false = omega arith

pub signed_length : (minus : Bool) (n : ℕ) → length (signed_text minus n) ≡ bool_byte minus + length (number_text n)
unfolding signed_text
signed_length true n = omega arith
signed_length false n = omega arith

-- the sign is stored, and then the digits
pub signed_minus : (s : Bytes) (minus : Bool) (n : ℕ) → minus ≡ true → 0 < length s → over (set s 0 45) (bool_byte minus) (number_text n) ≡ over s 0 (signed_text minus n)
unfolding signed_text
signed_minus s minus n e h = rw e (sym (over_step s 0 45 (number_text n) h))

pub signed_plain : (s : Bytes) (minus : Bool) (n : ℕ) → minus ≡ false → over s (bool_byte minus) (number_text n) ≡ over s 0 (signed_text minus n)
unfolding signed_text
signed_plain s minus n e = rw e

pub signed_number : (n : ℕ) → signed_text false n ≡ number_text n
unfolding signed_text
signed_number n = refl

pub signed_integer : (z : ℤ) → signed_text (lt_z z (pos 0)) (nat_abs z) ≡ integer_text z
unfolding signed_text integer_text
signed_integer (pos n) = rw (le-ltb n 0 (omega arith))
signed_integer (negsuc n) = refl
