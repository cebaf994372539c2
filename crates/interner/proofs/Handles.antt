-- Laws of runs of handles: what holds of each, what differs at none, one more.
use Prim.Native.Nat.{ℕ, zero, suc, ◌+◌, ◌≤◌, ◌<◌}
use mathlib.Core.Path.{◌≡◌, refl, sym, ◌∙◌, ap}
use mathlib.Core.Bool.{Bool, true}
use mathlib.Core.List.{List, [], ◌∷◌, ◌++◌, map}
use native.Mathlib.Nat.{add-zero, add-suc, suc-add}
use native.Mathlib.Omega.{arith}
use lib.ListN.{length, get_or}
use Rattle.base.specs.Bytes.{all, both}
use Rattle.base.proofs.Lists.{all_nil, all_cons, all_head, all_tail}
use Rattle.base.proofs.Split.{by_eq}
use Rattle.interner.specs.Sound.{handles}

pub length_handles : (n h : ℕ) → length (handles n h) ≡ n
unfolding handles
length_handles zero h = refl
length_handles (suc n) h = ap suc (length_handles n (suc h))

pub handles_more : (n h : ℕ) → handles (suc n) h ≡ handles n h ++ ((h + n) ∷ [])
unfolding handles
handles_more zero h = rw add-zero
handles_more (suc n) h = rw (add-suc, ← suc-add) (ap (h ∷◌) (handles_more n (suc h)))

module _ (p : ℕ → Bool) where
  pub all_handles : (n h : ℕ) → ((k : ℕ) → h ≤ k → k < h + n → p k ≡ true) → all p (handles n h) ≡ true
  unfolding handles
  all_handles zero h f = all_nil p
  all_handles (suc n) h f = all_cons p h (handles n (suc h)) (f h (omega arith) (omega arith)) (all_handles n (suc h) (λ k a b. f k (omega arith) (omega arith)))

  pub each_handle : (n h : ℕ) → all p (handles n h) ≡ true → (k : ℕ) → h ≤ k → k < h + n → p k ≡ true
  unfolding handles
  each_handle zero h e k a b = absurd (omega arith)
  each_handle (suc n) h e k a b =
      by_eq h k
      (λ q. rw q at (all_head p h (handles n (suc h)) e))
      (λ q. each_handle n (suc h) (all_tail p h (handles n (suc h)) e) k (omega arith) (omega arith))

pub map_handles : {A : Type 0} (f g : ℕ → A) (n h : ℕ) → ((k : ℕ) → h ≤ k → k < h + n → f k ≡ g k) → map f (handles n h) ≡ map g (handles n h)
unfolding handles
map_handles f g zero h e = refl
map_handles f g (suc n) h e = cc (e h (omega arith) (omega arith), map_handles f g n (suc h) (λ k a b. e k (omega arith) (omega arith)))

-- ---- the same of what a function makes of the handles

all_map : {A B : Type 0} (p : B → Bool) (f : A → B) (xs : List A) → all p (map f xs) ≡ all (λ x. p (f x)) xs
unfolding all
all_map p f [] = refl
all_map p f (x ∷ xs) = ap (both (p (f x))) (all_map p f xs)

module _ {A : Type 0} (p : A → Bool) (f : ℕ → A) where
  pub all_made : (n h : ℕ) → ((k : ℕ) → h ≤ k → k < h + n → p (f k) ≡ true) → all p (map f (handles n h)) ≡ true
  all_made n h g = all_map p f (handles n h) ∙ all_handles (λ k. p (f k)) n h g

  pub each_made : (n h : ℕ) → all p (map f (handles n h)) ≡ true → (k : ℕ) → h ≤ k → k < h + n → p (f k) ≡ true
  each_made n h e = each_handle (λ k. p (f k)) n h (sym (all_map p f (handles n h)) ∙ e)

pub made_at : {A : Type 0} (f : ℕ → A) (d : A) (n h i : ℕ) → i < n → get_or (map f (handles n h)) i d ≡ f (h + i)
unfolding handles
made_at f d zero h i g = absurd (omega arith)
made_at f d (suc n) h zero g = rw add-zero
made_at f d (suc n) h (suc i) g = rw (add-suc, ← suc-add) (made_at f d n (suc h) i (omega arith))
