-- Strict total orders given by a test; an order that natural numbers show is one, and the order of the integers is.
use Prim.Native.Nat.{ℕ, suc, ◌+◌, ◌-◌, ◌<◌}
use mathlib.Core.Path.{◌≡◌, sym, ◌∙◌, ap}
use mathlib.Core.Bool.{Bool, true, false}
use mathlib.Core.Logic.{◌⊎◌, inl, inr, ⊎_elim}
use native.Mathlib.Omega.{arith}
use lib.Dec.{ltb}
use lib.IntN.{ℤ, pos, negsuc}
use lib.Signed.{lt_z, mag}
use borrow.Author.Tests.{lt-ltb, le-ltb, ltb-true}
use Rattle.base.proofs.Split.{by_bool, by_lt, clash, same_test}

pub record Strict {A : Type 0} (lt : A → A → Bool) : Type 0 where
  pub irreflexive : (a : A) → lt a a ≡ false
  pub transitive : (a b c : A) → lt a b ≡ true → lt b c ≡ true → lt a c ≡ true
  pub total : (a b : A) → (lt a b ≡ true) ⊎ ((a ≡ b) ⊎ (lt b a ≡ true))

module _ {A : Type 0} {lt : A → A → Bool} (o : Strict lt) where
  pub by_order : {C : Type 0} (a b : A) → (lt a b ≡ true → C) → (a ≡ b → C) → (lt b a ≡ true → C) → C
  by_order a b f g h = ⊎_elim f (λ r. ⊎_elim g h r) (o.total a b)

  pub asymmetric : (a b : A) → lt a b ≡ true → lt b a ≡ false
  asymmetric a b t = by_bool (lt b a) (λ u. clash (o.transitive a b a t u) (o.irreflexive a)) (λ u. u)

  -- not to be less is transitive too
  pub not_less : (a b c : A) → lt a b ≡ false → lt b c ≡ false → lt a c ≡ false
  not_less a b c s t =
      by_order a b
      (λ u. clash u s)
      (λ e. rw e t)
      (λ u. by_bool (lt a c) (λ v. clash (o.transitive b a c u v) t) (λ v. v))

-- an order is strict and total if any elements have places among the natural numbers, for a bound on their size, that show it
module _ {A : Type 0} (lt : A → A → Bool) (size : A → ℕ) (place : ℕ → A → ℕ)
    (rises : (h : ℕ) (a b : A) → size a < h → size b < h → ltb (place h a) (place h b) ≡ lt a b)
    (alone : (h : ℕ) (a b : A) → size a < h → size b < h → place h a ≡ place h b → a ≡ b) where
  pub by_places : Strict lt
  by_places = record {
    irreflexive = λ a. let h = suc (size a) in sym (rises h a a (omega arith) (omega arith)) ∙ le-ltb (place h a) (place h a) (omega arith);
    transitive = λ a b c s t.
        let h = suc (size a + size b + size c) in
        let x = ltb-true (place h a) (place h b) (rises h a b (omega arith) (omega arith) ∙ s) in
        let y = ltb-true (place h b) (place h c) (rises h b c (omega arith) (omega arith) ∙ t) in
        sym (rises h a c (omega arith) (omega arith)) ∙ lt-ltb (place h a) (place h c) (omega arith);
    total = λ a b.
        let h = suc (size a + size b) in
        by_lt (place h a) (place h b)
        (λ l. inl (sym (rises h a b (omega arith) (omega arith)) ∙ lt-ltb (place h a) (place h b) l))
        (λ l. inr (by_lt (place h b) (place h a)
        (λ m. inr (sym (rises h b a (omega arith) (omega arith)) ∙ lt-ltb (place h b) (place h a) m))
        (λ m. inl (alone h a b (omega arith) (omega arith) (omega arith)))));
  }

-- ---- the integers

abbrev level : ℕ → ℤ → ℕ
level h (pos n) = h + n
level h (negsuc n) = h - suc n

level_rises : (h : ℕ) (a b : ℤ) → mag a < h → mag b < h → ltb (level h a) (level h b) ≡ lt_z a b
level_rises h (pos m) (pos n) p q =
    same_test _ _ (λ t. lt-ltb m n (omega (arith, ltb-true (h + m) (h + n) t))) (λ t. lt-ltb (h + m) (h + n) (omega (arith, ltb-true m n t)))
level_rises h (pos m) (negsuc n) p q = le-ltb (h + m) (h - suc n) (omega arith)
level_rises h (negsuc m) (pos n) p q = lt-ltb (h - suc m) (h + n) (omega arith)
level_rises h (negsuc m) (negsuc n) p q =
    same_test _ _ (λ t. lt-ltb n m (omega (arith, ltb-true (h - suc m) (h - suc n) t))) (λ t. lt-ltb (h - suc m) (h - suc n) (omega (arith, ltb-true n m t)))

level_alone : (h : ℕ) (a b : ℤ) → mag a < h → mag b < h → level h a ≡ level h b → a ≡ b
level_alone h (pos m) (pos n) p q e = ap pos (omega arith)
level_alone h (pos m) (negsuc n) p q e = absurd (omega arith)
level_alone h (negsuc m) (pos n) p q e = absurd (omega arith)
level_alone h (negsuc m) (negsuc n) p q e = ap negsuc (omega arith)

pub integers : Strict lt_z
integers = by_places lt_z mag level level_rises level_alone
