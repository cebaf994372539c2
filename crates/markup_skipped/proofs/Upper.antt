-- Capitals in the place of small letters.
use Prim.Native.Nat.{ℕ, ◌+◌, ◌-◌, ◌≤◌}
use mathlib.Core.Path.{◌≡◌, refl, sym, ◌∙◌}
use mathlib.Core.Bool.{false}
use mathlib.Core.List.{List, [], ◌∷◌, ◌++◌, map}
use native.Mathlib.Omega.{arith}
use lib.Dec.{eqb}
use borrow.Author.Tests.{eqb-true, eq-eqb, ne_eqb, lt-leb, le-leb}
use Rattle.base.specs.Ascii.{ascii}
use Rattle.base.specs.Bytes.{both, either, same}
use Rattle.base.proofs.Split.{by_le, by_either, both_no_right, both_true, either_left, either_right, same_test}
use Rattle.text.specs.Char.{from_to}
use Rattle.markup.specs.Markup.{upper_case, reserved_target}

-- a small letter, and any other character
small : (c : ℕ) → 97 ≤ c → c ≤ 122 → upper_case c ≡ c - 32
unfolding from_to both
small c l m = rw (le-leb 97 c l, le-leb c 122 m)

other : (c : ℕ) → (97 ≤ c → c ≤ 122 → ⊥) → upper_case c ≡ c
unfolding from_to both
other c n = by_le 97 c (λ l. by_le c 122 (λ m. absurd (n l m)) (λ m. rw (le-leb 97 c l, lt-leb c 122 m))) (λ l. rw (lt-leb 97 c l))

by_letter : {C : Type 0} (c : ℕ) → (97 ≤ c → c ≤ 122 → C) → ((97 ≤ c → c ≤ 122 → ⊥) → C) → C
by_letter c f g = by_le 97 c (λ l. by_le c 122 (f l) (λ m. g (λ a b. omega arith))) (λ l. g (λ a b. omega arith))

-- a capital's capital is itself
pub upper_twice : (c : ℕ) → upper_case (upper_case c) ≡ upper_case c
upper_twice c = by_letter c (λ l m. rw (small c l m) (other (c - 32) (λ a b. omega arith))) (λ n. rw (other c n) (other c n))

pub upper_more : (v : List ℕ) (c : ℕ) → map upper_case (map upper_case v ++ (c ∷ [])) ≡ map upper_case (v ++ (c ∷ []))
upper_more [] c = refl
upper_more (d ∷ v) c = cc (upper_twice d, upper_more v c)

pub upper_all_twice : (v : List ℕ) → map upper_case (map upper_case v) ≡ map upper_case v
upper_all_twice [] = refl
upper_all_twice (d ∷ v) = cc (upper_twice d, upper_all_twice v)

-- which characters have a letter as their capital
pub upper_is : (x c : ℕ) → 65 ≤ x → x ≤ 90 → eqb (upper_case c) x ≡ either (eqb c x) (eqb c (x + 32))
upper_is x c l h =
    same_test _ _
    (λ e. let k = eqb-true (upper_case c) x e in
    by_letter c (λ a b. let s = small c a b in either_right _ (eq-eqb c (x + 32) (omega arith))) (λ n. let s = other c n in either_left _ _ (eq-eqb c x (omega arith))))
    (λ e. by_either _ _ e
    (λ t. let k = eqb-true c x t in let s = other c (λ a b. omega arith) in eq-eqb (upper_case c) x (omega arith))
    (λ t. let k = eqb-true c (x + 32) t in let s = small c (omega arith) (omega arith) in eq-eqb (upper_case c) x (omega arith)))

pub upper_other : (x c : ℕ) → 65 ≤ x → x ≤ 90 → (c ≡ x → ⊥) → (c ≡ x + 32 → ⊥) → eqb (upper_case c) x ≡ false
unfolding either
upper_other x c l h n m = upper_is x c l h ∙ rw (ne_eqb c x n, ne_eqb c (x + 32) m)

-- no capital is a small letter
pub upper_no_x : (c : ℕ) → eqb (upper_case c) 120 ≡ false
upper_no_x c = ne_eqb (upper_case c) 120 (λ e. by_letter c (λ l m. let s = small c l m in omega arith) (λ n. let s = other c n in n (omega arith) (omega arith)))

-- a target is reserved where its capitals are `XML`
pub reserved_upper : (t : List ℕ) → reserved_target t ≡ same (map upper_case t) (ascii "XML")
unfolding reserved_target same
reserved_upper [] = refl
reserved_upper (x ∷ []) = sym (both_no_right (eqb (upper_case x) 88) refl)
reserved_upper (x ∷ m ∷ []) = sym (both_no_right (eqb (upper_case x) 88) (both_no_right (eqb (upper_case m) 77) refl))
reserved_upper (x ∷ m ∷ l ∷ []) =
    rw (upper_is 88 x (omega arith) (omega arith), upper_is 77 m (omega arith) (omega arith), upper_is 76 l (omega arith) (omega arith), both_true)
reserved_upper (x ∷ m ∷ l ∷ c ∷ cs) = sym (both_no_right (eqb (upper_case x) 88) (both_no_right (eqb (upper_case m) 77) (both_no_right (eqb (upper_case l) 76) refl)))
