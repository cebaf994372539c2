-- What it tells that words are ones of a place, or are not; and that the words beside a place's number fit their types.
use Rattle.std.specs.Prelude.{None, Some}
use Prim.Native.Nat.{ℕ, zero, suc, ◌≤◌}
use mathlib.Core.Path.{◌≡◌, refl, sym}
use mathlib.Core.Bool.{Bool, true, false}
use mathlib.Core.List.{List, [], ◌∷◌}
use native.Mathlib.Omega.{arith}
use lib.Dec.{leb}
use lib.ListN.{get_or}
use borrow.Author.Tests.{leb-true}
use Rattle.base.specs.Bytes.{both, all}
use Rattle.base.proofs.Split.{by_bool, both_left, both_right, no}
use Rattle.c_file.specs.Words.{if_coded, first_most, second_most, detailed}

module _ {A : Type 0} {t : Bool} where
  pub coded : {x y : A} → Some y ≡ if_coded t x → (t ≡ true) × (y ≡ x)
  coded {x} {y} e = by_bool t (λ i. let z : Some y ≡ Some x = rw i at e in (i, cc)) (λ i. let z : Some y ≡ None = rw i at e in no (cc))

  pub not_coded : (x : A) → None ≡ if_coded t x → t ≡ false
  not_coded x e = by_bool t (λ i. let z : Some x ≡ None = sym (rw i at e) in no (cc)) (λ i. i)

-- an entry of a list of numbers is at most what all of them are at most
entry_most : (m : ℕ) (xs : List ℕ) (n : ℕ) → all (λ x. leb x m) xs ≡ true → get_or xs n 0 ≤ m
unfolding all
entry_most m [] n e = omega arith
entry_most m (x ∷ xs) zero e = leb-true x m (both_left _ _ e)
entry_most m (x ∷ xs) (suc n) e = entry_most m xs n (both_right (leb x m) _ e)

module _ (n a b : ℕ) (e : detailed n a b ≡ true) where
  -- the first in a byte
  pub first_within : a ≤ 9
  unfolding detailed all both
  first_within =
      let h = leb-true a (get_or first_most n 0) (both_left _ _ (both_right (leb n 33) _ e)) in
      let k = entry_most 9 first_most n refl in
      omega arith

  -- the second is a character's number at most
  pub second_within : b ≤ 0x10ffff
  unfolding detailed all both
  second_within =
      let h = leb-true b (get_or second_most n 0) (both_right (leb a (get_or first_most n 0)) _ (both_right (leb n 33) _ e)) in
      let k = entry_most 0x10ffff second_most n refl in
      omega arith
