-- In a list in order, the ids that pass a closed test are those whose places lie below their number.
use Prim.Native.Nat.{ℕ, zero, suc, ◌<◌, ◌≤◌}
use mathlib.Core.Path.{◌≡◌, refl, sym, ◌∙◌}
use mathlib.Core.Bool.{Bool, true, false}
use mathlib.Core.List.{List, [], ◌∷◌}
use native.Mathlib.Omega.{arith}
use lib.Dec.{ltb, leb-suc-suc}
use lib.IntN.{ℤ}
use lib.ListN.{length}
use borrow.Author.Tests.{lt-ltb, le-ltb}
use Rattle.base.proofs.Split.{by_bool, clash, both_left, both_right}
use Rattle.sorted.specs.Lookup.{id_at, count, ids_rising_from, in_order}
use Rattle.sorted.proofs.Keys.{Closed}

pub tail : (a : ℤ) (ids : List ℤ) → ids_rising_from a ids ≡ true → in_order ids ≡ true
unfolding ids_rising_from in_order
tail a [] r = refl
tail a (b ∷ ids) r = both_right _ _ r

pub count_le : (t : ℤ → Bool) (ids : List ℤ) → count t ids ≤ length ids
unfolding count
count_le t [] = omega arith
count_le t (a ∷ ids) = by_bool (t a) (λ y. rw y (omega (arith, count_le t ids))) (λ n. rw n (omega (arith, count_le t ids)))

module _ {t : ℤ → Bool} (closed : Closed t) where
  -- after an id that fails, every id fails
  none : (a : ℤ) (ids : List ℤ) → ids_rising_from a ids ≡ true → t a ≡ false → count t ids ≡ 0
  unfolding ids_rising_from count
  none a [] r f = refl
  none a (b ∷ ids) r f =
      let g : t b ≡ false = by_bool (t b) (λ y. clash (closed a b (both_left _ _ r) y) f) (λ n. n) in
      rw g (none b ids (both_right _ _ r) g)

  pub splits : (ids : List ℤ) → in_order ids ≡ true → (k : ℕ) → k < length ids → t (id_at ids k) ≡ ltb k (count t ids)
  unfolding in_order count
  splits [] r k h = absurd (omega arith)
  splits (a ∷ ids) r zero h = by_bool (t a) (λ y. rw y (sym (lt-ltb 0 (suc (count t ids)) (omega arith)))) (λ n. rw (n, none a ids r n))
  splits (a ∷ ids) r (suc k) h =
      splits ids (tail a ids r) k (omega arith)
      ∙ by_bool (t a)
      (λ y. rw y (sym (leb-suc-suc (suc k) (count t ids))))
      (λ n. rw (n, none a ids r n) (le-ltb k 0 (omega arith) ∙ sym (le-ltb (suc k) 0 (omega arith))))
