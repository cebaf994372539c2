-- Hash maps and sets: what is found after a key was put in or taken out; and a list past its end.
use Rattle.std.specs.Prelude.{None, Some, slice_get}
use Rattle.std.proofs.Common.{◌≡◌, ℕ, zero, suc, ◌≤◌, true, false, cond, List, [], ◌∷◌, length, ℤ, pos, negsuc, sym, refl, ap, ◌∙◌, arith, eq-eqb, eqb-true}
use Rattle.base.proofs.Split.{by_bool, clash}
use Rattle.published.specs.Std.{eq_z, HashMap, get, insert, remove, HashSet, contains, insert_into, remove_from}

pub eq_self : (a : ℤ) → eq_z a a ≡ true
unfolding eq_z
eq_self (pos n) = eq-eqb n n refl
eq_self (negsuc n) = eq-eqb n n refl

pub eq_yes : (a b : ℤ) → eq_z a b ≡ true → a ≡ b
unfolding eq_z
eq_yes (pos m) (pos n) t = ap pos (eqb-true m n t)
eq_yes (pos m) (negsuc n) t = clash t refl
eq_yes (negsuc m) (pos n) t = clash t refl
eq_yes (negsuc m) (negsuc n) t = ap negsuc (eqb-true m n t)

pub eq_no : (a b : ℤ) → (a ≡ b → ⊥) → eq_z a b ≡ false
eq_no a b n = by_bool (eq_z a b) (λ t. absurd (n (eq_yes a b t))) (λ t. t)

pub by_id : {C : Type 0} (a b : ℤ) → (a ≡ b → C) → ((a ≡ b → ⊥) → C) → C
by_id a b f g = by_bool (eq_z a b) (λ t. f (eq_yes a b t)) (λ t. g (λ e. clash (rw e (eq_self b)) t))

module _ {T : Type 0} where
  pub get_removed : (m : HashMap T) (k : ℤ) → get (remove m k) k ≡ None
  unfolding get remove
  get_removed [] k = refl
  get_removed (e ∷ m) k = by_bool (eq_z e.key k) (λ t. rw t (get_removed m k)) (λ t. rw (t, t) (get_removed m k))

  pub get_kept : (m : HashMap T) (k j : ℤ) → (j ≡ k → ⊥) → get (remove m k) j ≡ get m j
  unfolding get remove
  get_kept [] k j n = refl
  get_kept (e ∷ m) k j n =
      by_bool (eq_z e.key k)
      (λ t. let d : eq_z e.key j ≡ false = eq_no e.key j (λ q. n (sym q ∙ eq_yes e.key k t)) in rw (t, d) (get_kept m k j n))
      (λ t. rw t (ap (cond (eq_z e.key j) (Some e.value)) (get_kept m k j n)))

  pub get_own : (m : HashMap T) (k : ℤ) (v : T) → get (insert m k v) k ≡ Some v
  unfolding get insert
  get_own m k v = rw (eq_self k)

  pub get_other : (m : HashMap T) (k j : ℤ) (v : T) → (j ≡ k → ⊥) → get (insert m k v) j ≡ get m j
  unfolding get insert
  get_other m k j v n = rw (eq_no k j (λ e. n (sym e))) (get_kept m k j n)

pub contains_removed : (s : HashSet) (k : ℤ) → contains (remove_from s k) k ≡ false
unfolding contains remove_from
contains_removed [] k = refl
contains_removed (x ∷ s) k = by_bool (eq_z x k) (λ t. rw t (contains_removed s k)) (λ t. rw (t, t) (contains_removed s k))

pub contains_kept : (s : HashSet) (k j : ℤ) → (j ≡ k → ⊥) → contains (remove_from s k) j ≡ contains s j
unfolding contains remove_from
contains_kept [] k j n = refl
contains_kept (x ∷ s) k j n =
    by_bool (eq_z x k)
    (λ t. let d : eq_z x j ≡ false = eq_no x j (λ q. n (sym q ∙ eq_yes x k t)) in rw (t, d) (contains_kept s k j n))
    (λ t. rw t (ap (cond (eq_z x j) true) (contains_kept s k j n)))

pub contains_own : (s : HashSet) (k : ℤ) → contains (insert_into s k) k ≡ true
unfolding contains insert_into
contains_own s k = rw (eq_self k)

pub contains_other : (s : HashSet) (k j : ℤ) → (j ≡ k → ⊥) → contains (insert_into s k) j ≡ contains s j
unfolding contains insert_into
contains_other s k j n = rw (eq_no k j (λ e. n (sym e))) (contains_kept s k j n)

-- xs.get(n)
pub elem_past : {A : Type 0} (xs : List A) (n : ℕ) → length xs ≤ n → slice_get xs n ≡ None
elem_past [] n l = refl
elem_past (x ∷ xs) zero l = absurd (omega arith)
elem_past (x ∷ xs) (suc n) l = elem_past xs n (omega arith)
