-- Proofs by cases: of a test, of two numbers, of what cannot be.
use Prim.Native.Nat.{ℕ, ◌<◌, ◌≤◌}
use mathlib.Core.Path.{◌≡◌, refl, sym}
use mathlib.Core.Bool.{Bool, true, false}
use native.Mathlib.Omega.{arith}
use lib.Dec.{ltb, leb, eqb}
use borrow.Author.Clash as library
use Rattle.base.specs.Bytes.{both, either}
use borrow.Author.Tests.{ltb-true, ltb-false, leb-true, leb-false, eqb-true, eqb-false}

-- the library's, with the test left to be found
pub clash : {C : Type 0} {t : Bool} → t ≡ true → t ≡ false → C
clash {t} p q = library.clash t p q

-- the cases exclude each other
pub no : {C : Type 0} → ◌≡◌ {A = ℕ} 0 1 → C
no e = let n : ⊥ = omega arith in absurd n

module _ {C : Type 0} where
  pub by_bool : (t : Bool) → (t ≡ true → C) → (t ≡ false → C) → C
  by_bool true f g = f refl
  by_bool false f g = g refl

  pub by_lt : (a b : ℕ) → (a < b → C) → (b ≤ a → C) → C
  by_lt a b f g = by_bool (ltb a b) (λ e. f (ltb-true a b e)) (λ e. g (ltb-false a b e))

  pub by_le : (a b : ℕ) → (a ≤ b → C) → (b < a → C) → C
  by_le a b f g = by_bool (leb a b) (λ e. f (leb-true a b e)) (λ e. g (leb-false a b e))

  pub by_eq : (a b : ℕ) → (a ≡ b → C) → ((a ≡ b → ⊥) → C) → C
  by_eq a b f g = by_bool (eqb a b) (λ e. f (eqb-true a b e)) (λ e. g (eqb-false a b e))

pub both_left : (a b : Bool) → both a b ≡ true → a ≡ true
unfolding both
both_left a b e = go a refl e
  where
    go : (t : Bool) → a ≡ t → both t b ≡ true → a ≡ true
    go true p q = p
    go false p q = clash q refl

pub both_right : (a b : Bool) → both a b ≡ true → b ≡ true
unfolding both
both_right a b e = go a e
  where
    go : (t : Bool) → both t b ≡ true → b ≡ true
    go true q = q
    go false q = clash q refl

pub both_of : {a b : Bool} → a ≡ true → b ≡ true → both a b ≡ true
unfolding both
both_of p q = rw (p, q)

pub both_no_left : (a b : Bool) → a ≡ false → both a b ≡ false
unfolding both
both_no_left a b p = rw p

pub both_no_right : (a : Bool) {b : Bool} → b ≡ false → both a b ≡ false
unfolding both
both_no_right true p = p
both_no_right false p = refl

pub either_left : (a b : Bool) → a ≡ true → either a b ≡ true
unfolding either
either_left a b p = rw p

pub either_right : (a : Bool) {b : Bool} → b ≡ true → either a b ≡ true
unfolding either
either_right true p = refl
either_right false p = p

pub by_either : {C : Type 0} (a b : Bool) → either a b ≡ true → (a ≡ true → C) → (b ≡ true → C) → C
unfolding either
by_either {C} a b e f g = go a refl e
  where
    go : (t : Bool) → a ≡ t → either t b ≡ true → C
    go true p q = f p
    go false p q = g q

-- a test beside one that is known
pub both_true : (t : Bool) → both t true ≡ t
unfolding both
both_true true = refl
both_true false = refl

pub either_false : (t : Bool) → either t false ≡ t
unfolding either
either_false true = refl
either_false false = refl

-- two tests that follow from each other are the same test
pub same_test : (a b : Bool) → (a ≡ true → b ≡ true) → (b ≡ true → a ≡ true) → a ≡ b
same_test true b f g = sym (f refl)
same_test false true f g = clash (g refl) refl
same_test false false f g = refl
