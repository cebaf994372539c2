-- Laws of places in a line: the first of a byte, and the field that ends there.
use Rattle.std.specs.Prelude.{None, Option, Some, is_some, not}
use Prim.Native.Nat.{ℕ, zero, suc, ◌+◌, ◌-◌, ◌<◌, ◌≤◌}
use mathlib.Core.Path.{◌≡◌, refl, sym, ◌∙◌, ap}
use mathlib.Core.Bool.{Bool, true, false}
use mathlib.Core.List.{[], ◌∷◌}
use native.Mathlib.Nat.{suc-add, zero-add}
use native.Mathlib.Omega.{arith}
use lib.Dec.{eqb}
use lib.ListN.{length, get_or, take, drop, length-drop}
use lib.Seq.{slice, length-slice}
use borrow.Author.Tests.{eq-eqb, ne_eqb, le-leb, lt-leb, not-true, not-false}
use borrow.Rule.Slice.PartMut.{mid_of}
use Rattle.std.specs.Option.{MatchOption}
use Rattle.base.specs.Bytes.{Bytes, all}
use Rattle.base.proofs.Lists.{slice_take}
use Rattle.base.proofs.Split.{by_eq, by_le, no, both_of, both_no_left, both_no_right}
use Rattle.line.specs.Line.{onto, fields}
use Rattle.event_scan.specs.Scan.{fields_at, UpTo}

-- ---- the first of a byte

module _ (c : ℕ) where
  pub up_nil : UpTo c [] ≡ 0
  unfolding UpTo
  up_nil = refl

  pub up_cons_here : (b : ℕ) (s : Bytes) → b ≡ c → UpTo c (b ∷ s) ≡ 0
  unfolding UpTo
  up_cons_here b s e = rw (eq-eqb b c e)

  pub up_cons : (b : ℕ) (s : Bytes) → (b ≡ c → ⊥) → UpTo c (b ∷ s) ≡ suc (UpTo c s)
  unfolding UpTo
  up_cons b s n = rw (ne_eqb b c n)

  pub up_within : (s : Bytes) → UpTo c s ≤ length s
  up_within [] = rw up_nil (omega arith)
  up_within (b ∷ s) =
      by_eq b c
      (λ e. rw (up_cons_here b s e) (omega arith))
      (λ n. rw (up_cons b s n) (omega (arith, up_within s)))

-- ---- parts of a line

-- `&t[from..to]`
pub lent_is : (from to : ℕ) (t : Bytes) → from ≤ to → mid_of from (to - from) t ≡ slice from to t
lent_is from to t h = let e : from + (to - from) ≡ to = omega arith in sym (rw e at (slice_take from (to - from) t))

-- ---- fields

pub fields_past : (t : Bytes) (at : ℕ) → length t < at → fields_at t at ≡ []
unfolding fields_at
fields_past t at h = rw (lt-leb at (length t) h)

pub fields_within : (t : Bytes) (at : ℕ) → at ≤ length t → fields_at t at ≡ fields (drop at t)
unfolding fields_at
fields_within t at h = rw (le-leb at (length t) h)

shift_one : (b : ℕ) (t : Bytes) (at : ℕ) → fields_at (b ∷ t) (suc at) ≡ fields_at t at
shift_one b t at =
    by_le at (length t)
    (λ h. fields_within (b ∷ t) (suc at) (omega arith) ∙ sym (fields_within t at h))
    (λ h. fields_past (b ∷ t) (suc at) (omega arith) ∙ sym (fields_past t at h))

shift : (t : Bytes) (at k : ℕ) → at ≤ length t → fields_at (drop at t) k ≡ fields_at t (at + k)
shift t zero k h = rw zero-add
shift [] (suc at) k h = no (omega arith)
shift (b ∷ t) (suc at) k h = rw suc-add (shift t at k (omega arith) ∙ sym (shift_one b t (at + k)))

-- the first field goes to the first tab, and the others follow it
fields_first : (s : Bytes) → fields s ≡ take (UpTo 9 s) s ∷ fields_at s (UpTo 9 s + 1)
unfolding fields onto
fields_first [] = rw (up_nil 9, fields_past [] 1 (omega arith))
fields_first (b ∷ s) =
    by_eq b 9
    (λ e. rw (eq-eqb b 9 e, up_cons_here 9 b s e) (ap ([] ∷◌) (sym (fields_within (b ∷ s) 1 (omega arith)))))
    (λ n. rw (ne_eqb b 9 n, up_cons 9 b s n, fields_first s, suc-add, shift_one))

-- the end of the field at a place
abbrev pub tab_at : Bytes → ℕ → ℕ
tab_at t at = at + UpTo 9 (drop at t)

module _ (t : Bytes) (at : ℕ) (h : at ≤ length t) where
  pub tab_within : tab_at t at ≤ length t
  tab_within = omega (arith, up_within 9 (drop at t), length-drop at t)

  pub field_here : fields_at t at ≡ slice at (tab_at t at) t ∷ fields_at t (tab_at t at + 1)
  field_here =
      let e : at + (UpTo 9 (drop at t) + 1) ≡ tab_at t at + 1 = omega arith in
      fields_within t at h ∙ fields_first (drop at t)
      ∙ rw (slice_take at (UpTo 9 (drop at t)) t, shift t at (UpTo 9 (drop at t) + 1) h, e)

  pub field_length : length (slice at (tab_at t at) t) ≡ tab_at t at - at
  field_length = length-slice at (tab_at t at) t tab_within

-- ---- a byte that is nowhere

all_each : (p : ℕ → Bool) (s : Bytes) → ((k : ℕ) → k < length s → p (get_or s k 0) ≡ true) → all p s ≡ true
unfolding all
all_each p [] h = refl
all_each p (b ∷ s) h = both_of (h 0 (omega arith)) (all_each p s (λ k l. h (suc k) (omega arith)))

all_but : (p : ℕ → Bool) (s : Bytes) (i : ℕ) → i < length s → p (get_or s i 0) ≡ false → all p s ≡ false
unfolding all
all_but p [] i l h = no (omega arith)
all_but p (b ∷ s) zero l h = both_no_left _ _ h
all_but p (b ∷ s) (suc i) l h = both_no_right _ (all_but p s i (omega arith) h)

-- by where it stands first
pub lacks_told : (c : ℕ) (s : Bytes) (r : Option ℕ) (z : Bool)
    → MatchOption r ((k : ℕ) → k < length s → get_or s k 0 ≡ c → ⊥) (λ i. (i < length s) × ((get_or s i 0 ≡ c) × ((k : ℕ) → k < i → get_or s k 0 ≡ c → ⊥)))
    → is_some r ≡ not z → z ≡ all (λ b. not (eqb b c)) s
lacks_told c s None z h e = not-false z (sym e) ∙ sym (all_each (λ b. not (eqb b c)) s (λ k l. ap not (ne_eqb _ _ (h k l))))
lacks_told c s (Some i) z h e = not-true z (sym e) ∙ sym (all_but (λ b. not (eqb b c)) s i h.0 (ap not (eq-eqb _ _ h.1.0)))
