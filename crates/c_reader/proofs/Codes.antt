-- Codes read back, and the words of a mark.
use Prim.Native.Nat.{ℕ, zero, suc, ◌≤◌, ◌<◌, ◌^◌}
use mathlib.Core.Path.{◌≡◌, refl, ◌∙◌, ap}
use mathlib.Core.Bool.{true, false}
use native.Mathlib.Omega.{arith}
use lib.Dec.{leb}
use lib.ListN.{get_or-eq_default}
use lib.IntN.{ℤ}
use lib.Signed.{mag}
use mir.Syntax.{w32}
use mir.Val.{to_z, of_z, Fits, hbits}
use mir.Facts.{of_z-to_z}
use borrow.Author.Tests.{lt-leb, le-leb, leb-true}
use Rattle.base.specs.Bytes.{both, either}
use Rattle.base.proofs.Split.{by_lt, by_eq, both_right, by_either}
use Rattle.signed.proofs.Bits.{held}
use Rattle.refusal.specs.Refusal.{number_of, held_of, reply_of}
use Rattle.refusal.specs.declared.Reply.{Reply}
use Rattle.refusal.specs.declared.Refusal.{Refusal}
use Rattle.refusal.specs.declared.Refusal.TheVariants.{Regression}
use Rattle.refusal.specs.declared.Refusal.TheVariants as R
use Rattle.reader.specs.State.{stops_by}
use Rattle.reader.proofs.Events.{stopping_number}
use Rattle.c_reader.specs.Words.{refusal_codes, refusal_numbered}
use Rattle.c_reader.specs.declared.MarkWords.{MarkWords}

-- ---- what holds of each number below k, one by one

abbrev pub UpTo : (ℕ → Type 0) → ℕ → Type 0
UpTo P zero = Unit {0}
UpTo P (suc k) = P k × UpTo P k

pub below : (P : ℕ → Type 0) (k n : ℕ) → n < k → UpTo P k → P n
below P zero n h u = absurd (omega arith)
below P (suc k) n h u = by_eq n k (λ e. rw e u.0) (λ d. below P k n (omega arith) u.1)

-- a number that is outside a span
span_none : (a b n : ℕ) → (a ≤ n → suc b ≤ n) → both (leb a n) (leb n b) ≡ false
unfolding both
span_none a b n h = by_lt n a (λ l. rw (lt-leb a n l)) (λ l. rw (le-leb a n l, lt-leb n b (h l)))

-- ---- the refusals of marks, by their numbers

-- the numbers of the refusals that stop, today
pub numbers_stop : (n held : ℕ) → stops_by (refusal_numbered n held) ≡ stopping_number n
unfolding stops_by refusal_numbered both either
numbers_stop n held =
    by_lt n 27
    (λ l. below (λ (i : ℕ). stops_by (refusal_numbered i held) ≡ stopping_number i) 27 n l (refl, (refl, (refl, (refl, (refl, (refl, (refl, (refl, (refl, (refl, (refl, (refl, (refl, (refl, (refl, (refl, (refl, (refl, (refl, (refl, (refl, (refl, (refl, (refl, (refl, (refl, (refl, tt))))))))))))))))))))))))))))
    (λ l. rw (get_or-eq_default (refusal_codes held) R.Unsound l, le-leb 2 n (omega arith), lt-leb n 16 (omega arith), le-leb 23 n (omega arith), lt-leb n 26 (omega arith)))

-- each of them is at most 26
pub stopping_most : (n : ℕ) → stopping_number n ≡ true → n ≤ 26
stopping_most n e =
    by_either _ _ e
    (λ t. let l = leb-true n 16 (both_right _ _ t) in omega arith)
    (λ t. leb-true n 26 (both_right _ _ t))

pub refusal_none : (n held : ℕ) → (2 ≤ n → 17 ≤ n) → (23 ≤ n → 27 ≤ n) → stops_by (refusal_numbered n held) ≡ false
unfolding both either
refusal_none n held h f =
    numbers_stop n held
    ∙ rw (span_none 2 16 n h, span_none 23 26 n f)

-- HELD read back from its bits
pub held_back : {z : ℤ} {n : ℕ} → Fits w32 n → z ≡ to_z w32 n → Regression (to_z w32 (of_z w32 z)) ≡ Regression (to_z w32 n)
held_back f e = ap (λ (b : ℕ). Regression (to_z w32 b)) (ap (of_z w32) e ∙ of_z-to_z f)

-- a mark's words, from the reply of its refusal
pub mark_is : (r : Refusal) {line bits : ℕ} {x : Reply} → x ≡ reply_of r → mag x.held < 2 ^ hbits w32 → bits ≡ of_z w32 (to_z w32 (of_z w32 x.held))
    → ◌≡◌ {A = MarkWords} (record { number = x.number; line = line; held = bits }) (record { number = number_of r; line = line; held = of_z w32 (held_of r) })
unfolding reply_of
mark_is r {x} e h f = rw (f ∙ ap (of_z w32) (held w32 x.held h), e)
