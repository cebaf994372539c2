-- A list in which each element and the next pass a test: as a walk down the list says it, and as the library's `is_sorted_by` does, place by place.
use Prim.Native.Nat.{ℕ, zero, suc, ◌+◌, ◌<◌}
use mathlib.Core.Path.{◌≡◌, refl, sym}
use mathlib.Core.Bool.{Bool, true, false}
use mathlib.Core.List.{List, [], ◌∷◌}
use native.Mathlib.Nat.{suc-add}
use native.Mathlib.Omega.{arith}
use denote.Param.Members.{Mut}
use denote.Ref.{Bor}
use lib.ListN.{length, get_or}
use Rattle.std.specs.Fn.{Called, ComputesOnPairs}
use Rattle.std.specs.List.{IsAllAdjacentAnswer, AllAdjacentBelow}
use Rattle.std.proofs.lemmas.Fn.{always_returns_same}
use Rattle.base.specs.Bytes.{both}
use Rattle.base.proofs.Split.{both_of, both_no_left, both_no_right}

module _ {A : Type 0} (t : A → A → Bool) where
  -- each element passes with the one before it; before the first stands a
  unfoldable pub pass_after : A → List A → Bool
  pass_after a [] = true
  pass_after a (b ∷ xs) = both (t a b) (pass_after b xs)

  unfoldable pub neighbours_pass : List A → Bool
  neighbours_pass [] = true
  neighbours_pass (a ∷ xs) = pass_after a xs

  all_pass : (a : A) (xs : List A) → AllAdjacentBelow (λ x y. true ≡ t x y) (a ∷ xs) (length (a ∷ xs)) → pass_after a xs ≡ true
  unfolding pass_after
  all_pass a [] h = refl
  all_pass a (b ∷ xs) h = both_of (sym (h 0 a (omega arith))) (all_pass b xs (λ k d l. rw suc-add at (h (suc k) d (omega arith))))

  one_fails : (a : A) (xs : List A) (k : ℕ) → k + 1 < length (a ∷ xs) → ((d : A) → false ≡ t (get_or (a ∷ xs) k d) (get_or (a ∷ xs) (k + 1) d))
      → pass_after a xs ≡ false
  unfolding pass_after
  one_fails a [] k l h = absurd (omega arith)
  one_fails a (b ∷ xs) zero l h = both_no_left _ _ (sym (h a))
  one_fails a (b ∷ xs) (suc k) l h = both_no_right (t a b) (one_fails b xs k (omega arith) (λ d. rw suc-add at (h d)))

  answered : (xs : List A) (r : Bool) → IsAllAdjacentAnswer (λ x y b. b ≡ t x y) xs r → r ≡ neighbours_pass xs
  unfolding neighbours_pass
  answered [] true h = refl
  answered [] false h = absurd (omega (arith, h.1))
  answered (a ∷ xs) true h = sym (all_pass a xs h)
  answered (a ∷ xs) false h = sym (one_fails a xs h.0 h.1 h.2)

  -- from the clause `cases` of `is_sorted_by`, where each call gives t of the two elements
  pub neighbours_sorted : {F : Type 0} {g : Mut F (Bor A × (Bor A × Unit {0})) Bool} {f : F} (xs : List A) (r : Bool)
      → ((e : A → A → Bool) → ComputesOnPairs g e f → IsAllAdjacentAnswer (λ x y b. b ≡ e x y) xs r)
      → ((a : Bor A × (Bor A × Unit {0})) (b : Bool) (f' : F) → Called g f a b f' → (b ≡ t a.0.now a.1.0.now) × (f' ≡ f))
      → r ≡ neighbours_pass xs
  neighbours_sorted {g = g} {f = f} xs r clause h = answered xs r (clause t (always_returns_same g (λ a b. b ≡ t a.0.now a.1.0.now) f h))
