-- Laws of tests over lists, and of a part of a list.
use Prim.Native.Nat.{ℕ, zero, suc, ◌+◌}
use mathlib.Core.Path.{◌≡◌, refl, sym}
use mathlib.Core.Bool.{Bool, true}
use mathlib.Core.List.{List, [], ◌∷◌, ◌++◌}
use native.Mathlib.Nat.{zero-add, suc-add}
use lib.ListN.{take, drop}
use lib.Seq.{slice, take-nil}
use borrow.Author.Tests.{eqb-true, eq-eqb}
use Rattle.base.specs.Bytes.{Bytes, all, same}
use Rattle.base.proofs.Split.{both_left, both_right, both_of, clash, same_test}

pub all_append : {A : Type 0} (p : A → Bool) (xs ys : List A) → all p xs ≡ true → all p ys ≡ true → all p (xs ++ ys) ≡ true
unfolding all
all_append p [] ys h k = k
all_append p (x ∷ xs) ys h k = both_of (both_left _ _ h) (all_append p xs ys (both_right _ _ h) k)

pub all_left : {A : Type 0} (p : A → Bool) (xs ys : List A) → all p (xs ++ ys) ≡ true → all p xs ≡ true
unfolding all
all_left p [] ys h = refl
all_left p (x ∷ xs) ys h = both_of (both_left _ _ h) (all_left p xs ys (both_right _ _ h))

pub all_right : {A : Type 0} (p : A → Bool) (xs ys : List A) → all p (xs ++ ys) ≡ true → all p ys ≡ true
unfolding all
all_right p [] ys h = h
all_right p (x ∷ xs) ys h = all_right p xs ys (both_right _ _ h)

pub all_nil : {A : Type 0} (p : A → Bool) → all p [] ≡ true
unfolding all
all_nil p = refl

pub all_cons : {A : Type 0} (p : A → Bool) (x : A) (xs : List A) → p x ≡ true → all p xs ≡ true → all p (x ∷ xs) ≡ true
unfolding all
all_cons p x xs h k = both_of h k

pub all_head : {A : Type 0} (p : A → Bool) (x : A) (xs : List A) → all p (x ∷ xs) ≡ true → p x ≡ true
unfolding all
all_head p x xs h = both_left _ _ h

pub all_tail : {A : Type 0} (p : A → Bool) (x : A) (xs : List A) → all p (x ∷ xs) ≡ true → all p xs ≡ true
unfolding all
all_tail p x xs h = both_right _ _ h

-- two runs that the test takes for the same are
pub same_yes : (xs ys : Bytes) → same xs ys ≡ true → xs ≡ ys
unfolding same
same_yes [] [] e = refl
same_yes [] (y ∷ ys) e = clash e refl
same_yes (x ∷ xs) [] e = clash e refl
same_yes (x ∷ xs) (y ∷ ys) e = cc (eqb-true x y (both_left _ _ e), same_yes xs ys (both_right _ _ e))

pub same_refl : (xs : Bytes) → same xs xs ≡ true
unfolding same
same_refl [] = refl
same_refl (x ∷ xs) = both_of (eq-eqb x x refl) (same_refl xs)

pub same_swap : (xs ys : Bytes) → same xs ys ≡ same ys xs
same_swap xs ys = same_test _ _ (λ e. rw (same_yes xs ys e) (same_refl ys)) (λ e. rw (same_yes ys xs e) (same_refl xs))

-- ---- a part of a list, by its start and its length

pub slice_take : (from n : ℕ) (s : Bytes) → slice from (from + n) s ≡ take n (drop from s)
slice_take zero n s = rw zero-add
slice_take (suc from) n [] = rw suc-add (sym (take-nil n))
slice_take (suc from) n (b ∷ s) = rw suc-add (slice_take from n s)
