-- The code's `&` and `|` of two tests, and two tests over one list.
use mathlib.Core.Path.{◌≡◌, refl}
use mathlib.Core.Bool.{Bool, true, false, ◌&&◌, ◌||◌}
use mathlib.Core.List.{List, [], ◌∷◌}
use Rattle.base.specs.Bytes.{both, either, all}
use Rattle.base.proofs.Split.{both_of}
use Rattle.base.proofs.Lists.{all_nil, all_cons, all_head, all_tail}

pub and_both : (a b : Bool) → (a && b) ≡ both a b
unfolding both
and_both true b = refl
and_both false b = refl

pub or_either : (a b : Bool) → (a || b) ≡ either a b
unfolding either
or_either true b = refl
or_either false b = refl

pub all_both : {A : Type 0} (p q : A → Bool) (xs : List A) → all p xs ≡ true → all q xs ≡ true → all (λ x. both (p x) (q x)) xs ≡ true
all_both p q [] g h = all_nil (λ x. both (p x) (q x))
all_both p q (x ∷ xs) g h =
    all_cons (λ x. both (p x) (q x)) x xs (both_of (all_head p x xs g) (all_head q x xs h)) (all_both p q xs (all_tail p x xs g) (all_tail q x xs h))
