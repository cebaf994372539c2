-- What a word tells that was read as a number of fewer bits, or as a code; and what it tells that it was not.
use Rattle.std.specs.Prelude.{None, Some, Ok, Err, Option, Result}
use Rattle.std.specs.Result.{result_ok, OkIff}
use Prim.Native.Nat.{ℕ, zero, suc, ◌<◌}
use mathlib.Core.Path.{◌≡◌, refl, sym, ◌∙◌}
use mathlib.Core.Bool.{Bool, true, false}
use native.Mathlib.Omega.{arith}
use lib.Dec.{ltb, leb, eqb}
use borrow.Author.Tests.{lt-ltb, le-ltb, lt-leb, eqb-true, ne_eqb}
use Rattle.base.specs.Bytes.{both, either}
use Rattle.base.proofs.Split.{by_bool, by_eq, clash, no, both_right, both_of, either_left, either_right, by_either}
use Rattle.kind.specs.Kind.{of_number, Numbered}
use Rattle.kind.specs.declared.Kind.{Kind}
use Rattle.kind.specs.declared.UnknownKind.{UnknownKind}
use Rattle.reader.specs.State.{stops_by}
use Rattle.c_reader.specs.Words.{if_coded, kind_in, refusal_numbered, stop_coded}
use Rattle.c_reader.proofs.Fits.{held_within}

module _ (n k : ℕ) {E : Type 0} where
  pub narrow : (r : Result ℕ E) → OkIff r (n < k) n → {v : ℕ} → Some v ≡ result_ok r → (ltb n k ≡ true) × (v ≡ n)
  narrow (Ok x) o e = (lt-ltb n k o.0, cc (o.1))
  narrow (Err x) o e = no (cc)

  pub wide : (r : Result ℕ E) → OkIff r (n < k) n → ◌≡◌ {A = Option ℕ} None (result_ok r) → ltb n k ≡ false
  wide (Ok x) o e = no (cc)
  wide (Err x) o e = le-ltb n k (omega (arith, o))

module _ {A : Type 0} {t : Bool} where
  pub coded : {x y : A} → Some y ≡ if_coded t x → (t ≡ true) × (y ≡ x)
  coded {x} {y} e = by_bool t (λ i. let z : Some y ≡ Some x = rw i at e in (i, cc)) (λ i. let z : Some y ≡ None = rw i at e in no (cc))

  pub not_coded : (x : A) → None ≡ if_coded t x → t ≡ false
  not_coded x e = by_bool t (λ i. let z : Some x ≡ None = sym (rw i at e) in no (cc)) (λ i. i)

kind_numbered : (n : ℕ) → of_number n ≡ if_coded (leb n 2) (kind_in n)
unfolding of_number
kind_numbered zero = refl
kind_numbered (suc zero) = refl
kind_numbered (suc (suc zero)) = refl
kind_numbered (suc (suc (suc n))) = rw (lt-leb (suc (suc (suc n))) 2 (omega arith))

pub kind_named : (n : ℕ) (r : Result Kind UnknownKind) → Numbered n r → result_ok r ≡ if_coded (leb n 2) (kind_in n)
kind_named n (Ok k) h = h ∙ kind_numbered n
kind_named n (Err e) h = h.0 ∙ kind_numbered n

-- ---- whether three words are a mark's

module _ (n l h : ℕ) where
  pub held_wide : ltb h 4294967296 ≡ false → stop_coded n l h ≡ false
  held_wide f = by_bool (stop_coded n l h) (λ e. clash (lt-ltb _ _ (held_within n l h e)) f) (λ e. e)

  pub held_given : (n ≡ 12 → ⊥) → (h ≡ 0 → ⊥) → stop_coded n l h ≡ false
  unfolding stop_coded
  held_given f g =
      by_bool (stop_coded n l h)
      (λ e. by_either _ _ (both_right _ _ (both_right _ _ (both_right _ _ e))) (λ t. absurd (f (eqb-true _ _ t))) (λ t. absurd (g (eqb-true _ _ t))))
      (λ e. e)

  module _ (z : n ≡ 0 → ⊥) where
    pub numberless : stops_by (refusal_numbered n h) ≡ false → stop_coded n l h ≡ false
    unfolding stop_coded both either
    numberless e = rw (ne_eqb n 0 z, e)

    pub numbered : stops_by (refusal_numbered n h) ≡ true → ltb h 4294967296 ≡ true → either (eqb n 12) (eqb h 0) ≡ true → stop_coded n l h ≡ true
    unfolding stop_coded
    numbered e w k = both_of (either_right _ e) (both_of (either_left _ _ (lt-ltb 0 n (omega (arith, z)))) (both_of w k))

pub unnumbered : (l h : ℕ) → stop_coded 0 l h ≡ both (eqb l 0) (eqb h 0)
unfolding stop_coded both either
unnumbered l h = by_eq h 0 (λ e. rw e) (λ d. rw (ne_eqb h 0 d) (by_bool (ltb h 4294967296) (λ t. rw t) (λ t. rw t)))
