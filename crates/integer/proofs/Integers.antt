-- Laws of integer fields: what the reader of both widths gives, and what an answer says.
use Rattle.std.specs.Prelude.{None, Option, Some, option_map}
use Prim.Native.Nat.{ℕ, zero, suc, ◌+◌, ◌-◌, ◌^◌, ◌<◌, ◌≤◌}
use mathlib.Core.Path.{◌≡◌, refl, ◌∙◌, ap}
use mathlib.Core.Bool.{true, cond}
use mathlib.Core.List.{[], ◌∷◌}
use native.Mathlib.Omega.{arith}
use lib.Pow.{pow_pos}
use lib.Dec.{eqb}
use lib.ListN.{length, get_or, drop}
use lib.IntN.{ℤ, pos, negsuc, neg_ℤ}
use lib.Signed.{mag}
use mir.Syntax.{Width}
use mir.Val.{bits, hbits, Fits, SFits, of_z, to_z}
use mir.Facts.{Fits-of_z, to_z-of_z, of_z-to_z}
use mir.ValLaws.{to_z-Fits}
use borrow.Author.Tests.{le-leb, lt-leb, lt-ltb, le-ltb, eq-eqb, ne_eqb, ltb-true}
use Rattle.base.specs.Bytes.{Bytes, is_digit, all}
use Rattle.base.proofs.Split.{no, by_bool, by_lt, by_le}
use Rattle.base.proofs.Lists.{all_head}
use Rattle.integer.proofs.Digits.{digit_is, digits_of}
use Rattle.integer.specs.Integer.{decimal, digits, integer, holds, of_width, integer_of, read_of}
use Rattle.integer.specs.Bounded.{at_most, bits_of, read_bits}

-- ---- the reader of both widths, by the first byte

-- the bits of a magnitude taken negative, where `ones` has every bit set
unfoldable lowered : ℕ → Option ℕ → Option ℕ
lowered ones None = None
lowered ones (Some n) = cond (eqb n 0) (Some 0) (Some (ones - (n - 1)))

module _ (most ones : ℕ) where
  raised : (m : Option ℕ) → bits_of most ones (option_map pos m) ≡ at_most most m
  unfolding bits_of at_most
  raised None = refl
  raised (Some n) = refl

  fallen : (m : Option ℕ) → bits_of most ones (option_map (λ n. neg_ℤ (pos n)) m) ≡ lowered ones (at_most (most + 1) m)
  unfolding bits_of at_most lowered
  fallen None = refl
  fallen (Some zero) = rw (le-leb 0 most (omega arith), le-leb 0 (most + 1) (omega arith))
  fallen (Some (suc n)) =
      by_le n most
      (λ h. rw (le-leb n most h, le-leb (suc n) (most + 1) (omega arith), ne_eqb (suc n) 0 (λ q. omega arith)) (ap (λ k. Some (ones - k)) (omega arith)))
      (λ h. rw (lt-leb n most h, lt-leb (suc n) (most + 1) (omega arith)))

  pub read_empty : (s : Bytes) → length s ≡ 0 → read_bits most ones s ≡ None
  unfolding read_bits bits_of integer
  read_empty [] h = refl
  read_empty (b ∷ s) h = no (omega arith)

  pub read_plus : (s : Bytes) → 0 < length s → get_or s 0 0 ≡ 43 → read_bits most ones s ≡ at_most most (digits (drop 1 s))
  unfolding read_bits integer
  read_plus [] l h = no (omega arith)
  read_plus (b ∷ s) l h = rw (eq-eqb b 43 h) (raised (digits s))

  read_minus : (s : Bytes) → 0 < length s → get_or s 0 0 ≡ 45 → read_bits most ones s ≡ lowered ones (at_most (most + 1) (digits (drop 1 s)))
  unfolding read_bits integer
  read_minus [] l h = no (omega arith)
  read_minus (b ∷ s) l h = rw (ne_eqb b 43 (λ q. omega arith), eq-eqb b 45 h) (fallen (digits s))

  module _ (s : Bytes) (l : 0 < length s) (h : get_or s 0 0 ≡ 45) where
    pub minus_not : None ≡ at_most (most + 1) (digits (drop 1 s)) → read_bits most ones s ≡ None
    unfolding lowered
    minus_not e = read_minus s l h ∙ rw (← e)

    pub minus_zero : {n : ℕ} → Some n ≡ at_most (most + 1) (digits (drop 1 s)) → n ≡ 0 → read_bits most ones s ≡ Some 0
    unfolding lowered
    minus_zero {n} e k = read_minus s l h ∙ rw (← e, eq-eqb n 0 k)

    pub minus_more : {n : ℕ} → Some n ≡ at_most (most + 1) (digits (drop 1 s)) → (n ≡ 0 → ⊥) → read_bits most ones s ≡ Some (ones - (n - 1))
    unfolding lowered
    minus_more {n} e k = read_minus s l h ∙ rw (← e, ne_eqb n 0 k)

  pub read_plain : (s : Bytes) → 0 < length s → (get_or s 0 0 ≡ 43 → ⊥) → (get_or s 0 0 ≡ 45 → ⊥) → read_bits most ones s ≡ at_most most (digits s)
  unfolding read_bits integer
  read_plain [] l h k = no (omega arith)
  read_plain (b ∷ s) l h k = rw (ne_eqb b 43 h, ne_eqb b 45 k) (raised (digits (b ∷ s)))

-- the number of an answer is within its bound
pub at_most_lem : {most n : ℕ} (m : Option ℕ) → Some n ≡ at_most most m → n ≤ most
unfolding at_most
at_most_lem None e = no (cc)
at_most_lem {most} {n} (Some k) e =
    by_le k most
    (λ h. let w : Some n ≡ Some k = rw (le-leb k most h) at e in let q : n ≡ k = cc in omega arith)
    (λ h. let w : Some n ≡ None = rw (lt-leb k most h) at e in no (cc))

-- at a width's largest number and its bits all set, that reader reads the width's integers
in_width : (w : Width) (z : Option ℤ) → bits_of (2 ^ hbits w - 1) (2 ^ bits w - 1) z ≡ option_map (of_z w) (of_width w z)
unfolding bits_of of_width holds
in_width w None = refl
in_width w (Some (pos n)) =
    by_lt n (2 ^ hbits w)
    (λ h. rw (le-leb n (2 ^ hbits w - 1) (omega arith), lt-ltb n (2 ^ hbits w) h))
    (λ h. rw (lt-leb n (2 ^ hbits w - 1) (omega (arith, pow_pos (hbits w))), le-ltb n (2 ^ hbits w) h))
in_width w (Some (negsuc n)) =
    by_lt n (2 ^ hbits w)
    (λ h. rw (le-leb n (2 ^ hbits w - 1) (omega arith), lt-ltb n (2 ^ hbits w) h) (ap Some (omega arith)))
    (λ h. rw (lt-leb n (2 ^ hbits w - 1) (omega (arith, pow_pos (hbits w))), le-ltb n (2 ^ hbits w) h))

pub reads_width : (w : Width) (s : Bytes) → read_bits (2 ^ hbits w - 1) (2 ^ bits w - 1) s ≡ read_of w s
unfolding read_bits read_of integer_of
reads_width w s = in_width w (integer s)

module _ (w : Width) (s : Bytes) {most ones : ℕ} (m : most ≡ 2 ^ hbits w - 1) (o : ones ≡ 2 ^ bits w - 1) where
  pub reads : read_bits most ones s ≡ read_of w s
  reads = rw (m, o) (reads_width w s)

-- ---- what an answer says

-- an integer of its width is an integer, and the width holds it
of_width_is : (w : Width) (m : Option ℤ) {z : ℤ} → of_width w m ≡ Some z → (m ≡ Some z) × SFits w z
unfolding of_width holds
of_width_is w None e = no (cc)
of_width_is w (Some y) {z} e =
    by_bool (holds w y)
    (λ t. let q : Some y ≡ Some z = rw t at e in let p : y ≡ z = cc in (q, rw (← p) (record { sfits = ltb-true _ _ t })))
    (λ t. let q : None ≡ Some z = rw t at e in no (cc))

pub integer_of_is : (w : Width) (s : Bytes) {z : ℤ} → integer_of w s ≡ Some z → (integer s ≡ Some z) × SFits w z
unfolding integer_of
integer_of_is w s e = of_width_is w (integer s) e

pub integer_of_lem : (w : Width) (s : Bytes) {z : ℤ} → integer s ≡ Some z → SFits w z → integer_of w s ≡ Some z
unfolding integer_of of_width holds
integer_of_lem w s {z} e f = rw (e, lt-ltb (mag z) (2 ^ hbits w) f.sfits)

-- an answer that is a number: its bits fit, and it is the integer of the text
answer_is : (w : Width) (m : Option ℤ) {b : ℕ} → option_map (of_z w) m ≡ Some b → (z : ℤ) × ((m ≡ Some z) × (of_z w z ≡ b))
answer_is w None e = no (cc)
answer_is w (Some z) e = (z, (refl, cc))

pub read_is : (w : Width) (s : Bytes) {b : ℕ} → read_of w s ≡ Some b → (integer s ≡ Some (to_z w b)) × Fits w b
unfolding read_of
read_is w s {b} e =
    let a = answer_is w (integer_of w s) e in
    let p = integer_of_is w s a.1.0 in
    (rw (← a.1.1, to_z-of_z p.1) p.0, rw a.1.1 at (Fits-of_z p.1))

pub read_of_lem : (w : Width) (s : Bytes) {z : ℤ} → integer s ≡ Some z → SFits w z → read_of w s ≡ Some (of_z w z)
unfolding read_of
read_of_lem w s e f = rw (integer_of_lem w s e f)

-- back from the bits
pub read_back : (w : Width) (s : Bytes) {b : ℕ} → integer s ≡ Some (to_z w b) → Fits w b → read_of w s ≡ Some b
read_back w s {b} e f = read_of_lem w s e (to_z-Fits w b f) ∙ ap Some (of_z-to_z f)

pub read_not : (w : Width) (s : Bytes) → read_of w s ≡ None → integer_of w s ≡ None
unfolding read_of
read_not w s e = go (integer_of w s) e
  where
    go : (m : Option ℤ) → option_map (of_z w) m ≡ None → m ≡ None
    go None q = refl
    go (Some z) q = no (cc)

-- ---- texts of digits

-- digits alone are read as their number
pub integer_digits : (s : Bytes) → 0 < length s → all is_digit s ≡ true → integer s ≡ Some (pos (decimal 0 s))
unfolding integer
integer_digits [] l h = no (omega arith)
integer_digits (b ∷ s) l h =
    let d = digit_is b (all_head is_digit b s h) in
    rw (ne_eqb b 43 (λ q. omega arith), ne_eqb b 45 (λ q. omega arith), digits_of (b ∷ s) l h)
