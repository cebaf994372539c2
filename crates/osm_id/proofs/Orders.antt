-- The order of ids is a strict total order; keys and ranks carry it; and the first and the last id of a range.
use Prim.Native.Nat.{ℕ, zero, suc, ◌+◌, ◌-◌, ◌^◌, ◌<◌, ◌≤◌}
use mathlib.Core.Path.{◌≡◌, refl, sym, ◌∙◌, ap}
use mathlib.Core.Bool.{true, false, cond, not}
use mathlib.Core.Logic.{◌↔◌}
use native.Mathlib.Omega.{arith}
use lib.Dec.{ltb, eqb, leb-zero, leb-suc-zero, leb-suc-suc}
use lib.IntN.{ℤ, pos, negsuc}
use lib.Signed.{mag, le_z}
use mir.Syntax.{w64}
use mir.Val.{Fits, SFits}
use borrow.Author.Tests.{lt-ltb, le-ltb, ltb-true, le-leb, leb-true, eq-eqb, eqb-true}
use Rattle.base.proofs.Split.{by_bool, by_le, by_eq, clash, no, same_test}
use Rattle.base.proofs.Strict.{Strict, by_order, asymmetric, by_places}
use Rattle.osm_id.specs.Order.{before, same_id, osm_key_of, cmp_of, id_key_before, rank, id_of, first_key, last_key, EndKey}
use Rattle.std.specs.declared.cmp.Ordering.TheVariants.{Less, Equal, Greater}
use Rattle.std.specs.declared.cmp.Ordering.{Ordering}
use Rattle.std.specs.Ordering.{nat_cmp, partial_ordering_then, partial_lt, partial_le}
use Rattle.std.specs.Prelude.{Option, Some}
use Rattle.osm_id.specs.declared.OsmIdKey.{OsmIdKey}
use Rattle.std.proofs.lemmas.Bool.Decides.{nat_tests}

-- the rank, and the id of a rank, with room for h negatives instead of 2 ^ 63: any ids have such places for an h that is large enough
abbrev place : ℕ → ℤ → ℕ
place h (pos zero) = 0
place h (negsuc n) = suc n
place h (pos (suc n)) = h + suc n

abbrev back : ℕ → ℕ → ℤ
back h zero = pos zero
back h (suc n) = cond (ltb n h) (negsuc n) (pos (suc n - h))

back_place : (h : ℕ) (a : ℤ) → mag a < h → back h (place h a) ≡ a
back_place h (pos zero) p = refl
back_place h (negsuc n) p = rw (lt-ltb n h p)
back_place h (pos (suc n)) p =
    let e : h + suc n ≡ suc (h + n) = omega arith in
    let d : suc (h + n) - h ≡ suc n = omega arith in
    rw (e, le-ltb (h + n) h (omega arith), d)

place_before : (h : ℕ) (a b : ℤ) → mag a < h → mag b < h → ltb (place h a) (place h b) ≡ before a b
unfolding before
place_before h (pos zero) (pos zero) p q = refl
place_before h (pos zero) (negsuc n) p q = lt-ltb 0 (suc n) (omega arith)
place_before h (pos zero) (pos (suc n)) p q = lt-ltb 0 (h + suc n) (omega arith)
place_before h (negsuc m) (pos zero) p q = le-ltb (suc m) 0 (omega arith)
place_before h (negsuc m) (negsuc n) p q = leb-suc-suc (suc m) n
place_before h (negsuc m) (pos (suc n)) p q = lt-ltb (suc m) (h + suc n) (omega arith)
place_before h (pos (suc m)) (pos zero) p q = le-ltb (h + suc m) 0 (omega arith)
place_before h (pos (suc m)) (negsuc n) p q = le-ltb (h + suc m) (suc n) (omega arith)
place_before h (pos (suc m)) (pos (suc n)) p q =
    same_test _ _
    (λ t. lt-ltb m n (omega (arith, ltb-true (h + suc m) (h + suc n) t)))
    (λ t. lt-ltb (h + suc m) (h + suc n) (omega (arith, ltb-true m n t)))

-- ---- the order

pub order : Strict before
order =
    by_places before mag place place_before
    (λ h a b p q e. sym (back_place h a p) ∙ ap (back h) e ∙ back_place h b q)

same_eq : (a b : ℤ) → same_id a b ≡ true → a ≡ b
unfolding same_id
same_eq (pos m) (pos n) t = ap pos (eqb-true m n t)
same_eq (pos m) (negsuc n) t = clash t refl
same_eq (negsuc m) (pos n) t = clash t refl
same_eq (negsuc m) (negsuc n) t = ap negsuc (eqb-true m n t)

same_self : (a : ℤ) → same_id a a ≡ true
unfolding same_id
same_self (pos n) = eq-eqb n n refl
same_self (negsuc n) = eq-eqb n n refl

pub same_is : (a b : ℤ) → (same_id a b ≡ true) ↔ (a ≡ b)
same_is a b = (same_eq a b, λ e. rw e (same_self b))

-- ---- the comparison

module _ (a b : ℤ) where
  is_less : before a b ≡ true → cmp_of a b ≡ Less
  unfolding cmp_of
  is_less t = rw t

  is_equal : a ≡ b → cmp_of a b ≡ Equal
  unfolding cmp_of
  is_equal e = rw (e, order.irreflexive b, same_self b)

  is_greater : before b a ≡ true → cmp_of a b ≡ Greater
  unfolding cmp_of
  is_greater t = by_bool (same_id a b)
      (λ s. clash (rw (same_eq a b s) at t) (order.irreflexive b))
      (λ s. rw (asymmetric order b a t, s))

  pub less_is : (cmp_of a b ≡ Less) ↔ (before a b ≡ true)
  less_is = (λ c. by_order order a b (λ t. t) (λ e. no (cc (is_equal e))) (λ t. no (cc (is_greater t))), is_less)

  pub equal_is : (cmp_of a b ≡ Equal) ↔ (a ≡ b)
  equal_is = (λ c. by_order order a b (λ t. no (cc (is_less t))) (λ e. e) (λ t. no (cc (is_greater t))), is_equal)

  pub greater_is : (cmp_of a b ≡ Greater) ↔ (before b a ≡ true)
  greater_is = (λ c. by_order order a b (λ t. no (cc (is_less t))) (λ e. no (cc (is_equal e))) (λ t. t), is_greater)

-- ---- keys

pub key_before : (a b : ℤ) → id_key_before (osm_key_of a) (osm_key_of b) ≡ before a b
unfolding id_key_before osm_key_of before
key_before (pos zero) (pos zero) = refl
key_before (pos zero) (negsuc n) = refl
key_before (pos zero) (pos (suc n)) = refl
key_before (negsuc m) (pos zero) = refl
key_before (negsuc m) (negsuc n) = leb-suc-suc (suc m) n
key_before (negsuc m) (pos (suc n)) = refl
key_before (pos (suc m)) (pos zero) = refl
key_before (pos (suc m)) (negsuc n) = refl
key_before (pos (suc m)) (pos (suc n)) = leb-suc-suc (suc m) n

pub key_injective : (a b : ℤ) → osm_key_of a ≡ osm_key_of b → a ≡ b
key_injective a b e =
    by_order order a b
    (λ t. clash t (cc (key_before a b, key_before b b, order.irreflexive b)))
    (λ q. q)
    (λ t. clash t (cc (key_before b a, key_before b b, order.irreflexive b)))

-- what the derived order of keys answers, and `<` and `<=` by it
abbrev pub key_order : OsmIdKey → OsmIdKey → Option Ordering
key_order x y = partial_ordering_then (Some (nat_cmp x.class y.class)) (Some (nat_cmp x.magnitude y.magnitude))

module _ (x y : OsmIdKey) where
  pub key_lt : partial_lt key_order x y ≡ id_key_before x y
  unfolding id_key_before
  key_lt = grind (arith, nat_tests)

  pub key_le : partial_le key_order x y ≡ not (id_key_before y x)
  unfolding id_key_before
  key_le = grind (arith, nat_tests)

-- ---- ranks

rank_place : (a : ℤ) → rank a ≡ place (2 ^ 63) a
unfolding rank
rank_place (pos zero) = refl
rank_place (negsuc n) = refl
rank_place (pos (suc n)) = refl

id_back : (r : ℕ) → id_of r ≡ back (2 ^ 63) r
unfolding id_of
id_back zero = refl
id_back (suc n) = refl

pub id_rank : {a : ℤ} → SFits w64 a → id_of (rank a) ≡ a
id_rank {a} f = rw (id_back, rank_place) (back_place (2 ^ 63) a f.sfits)

module _ {a b : ℤ} (f : SFits w64 a) (g : SFits w64 b) where
  pub rank_before : ltb (rank a) (rank b) ≡ before a b
  rank_before = rw (rank_place a, rank_place b) (place_before (2 ^ 63) a b f.sfits g.sfits)

  pub rank_injective : rank a ≡ rank b → a ≡ b
  rank_injective e = sym (id_rank f) ∙ ap id_of e ∙ id_rank g

  rank_same : eqb (rank a) (rank b) ≡ same_id a b
  rank_same =
      same_test _ _
      (λ t. (same_is a b).1 (rank_injective (eqb-true (rank a) (rank b) t)))
      (λ t. eq-eqb (rank a) (rank b) (ap rank ((same_is a b).0 t)))

  pub rank_cmp : nat_cmp (rank a) (rank b) ≡ cmp_of a b
  unfolding cmp_of
  rank_cmp = rw (rank_before, rank_same)

pub rank_fits : {a : ℤ} → SFits w64 a → rank a < 2 ^ 64
unfolding rank
rank_fits {a = pos zero} f = omega arith
rank_fits {a = negsuc n} f = omega (arith, f.sfits)
rank_fits {a = pos (suc n)} f = omega (arith, f.sfits)

-- the ranks from 1 to 2 ^ 63 are of negative ids, those above of positive ones
pub id_negative : {r : ℕ} → (r ≡ 0 → ⊥) → r ≤ 2 ^ 63 → id_of r ≡ negsuc (r - 1)
unfolding id_of
id_negative {r = zero} n h = absurd (n refl)
id_negative {r = suc k} n h = rw (lt-ltb k (2 ^ 63) h) (ap negsuc (omega arith))

pub id_positive : {r : ℕ} → 2 ^ 63 < r → id_of r ≡ pos (r - 2 ^ 63)
unfolding id_of
id_positive {r = zero} h = absurd (omega arith)
id_positive {r = suc k} h = rw (le-ltb k (2 ^ 63) (omega arith))

pub rank_id : {r : ℕ} → Fits w64 r → rank (id_of r) ≡ r
unfolding rank id_of
rank_id {r = zero} f = refl
rank_id {r = suc n} f =
    by_le (suc n) (2 ^ 63)
    (λ l. rw (id_negative {r = suc n} (λ e. omega arith) l) (omega arith))
    (λ l. let e : suc n - 2 ^ 63 ≡ suc (n - 2 ^ 63) = omega arith in rw (id_positive l, e) (omega arith))

pub id_fits : {r : ℕ} → Fits w64 r → SFits w64 (id_of r)
unfolding id_of
id_fits {r} f =
    by_eq r 0
    (λ e. rw e (record { sfits = omega arith }))
    (λ n. by_le r (2 ^ 63)
    (λ l. rw (id_negative n l) (record { sfits = omega arith }))
    (λ l. rw (id_positive l) (record { sfits = omega (arith, f.fits) })))

-- ---- the first and the last id of a range

-- from 0 upward the order is that of the integers, and below 0 its converse
up : (a : ℕ) (j : ℤ) → le_z (pos a) j ≡ true → before j (pos a) ≡ false
unfolding before
up zero (pos zero) t = refl
up zero (pos (suc n)) t = refl
up (suc m) (pos zero) t = clash t (leb-suc-zero m)
up (suc m) (pos (suc n)) t = le-ltb n m (omega (arith, leb-true (suc m) (suc n) t))
up m (negsuc n) t = clash t refl

down : (b : ℕ) (j : ℤ) → le_z j (negsuc b) ≡ true → before j (negsuc b) ≡ false
unfolding before
down b (pos n) t = clash t refl
down b (negsuc n) t = le-ltb n b (leb-true b n t)

le_self : (a : ℤ) → le_z a a ≡ true
le_self (pos n) = le-leb n n (omega arith)
le_self (negsuc n) = le-leb n n (omega arith)

-- no id comes before 0
pub zero_first : (j : ℤ) → before j (pos zero) ≡ false
unfolding before
zero_first (pos zero) = refl
zero_first (negsuc n) = refl
zero_first (pos (suc n)) = refl

pub first_key_lem : (lo hi : ℤ) → le_z lo hi ≡ true → EndKey before lo hi (first_key lo hi)
unfolding first_key
first_key_lem (pos a) hi t = rw (leb-zero a) (record { id = pos a; key = refl; from = le_self (pos a); to = t; none = λ j p q. up a j p })
first_key_lem (negsuc a) (pos zero) t = record { id = pos zero; key = refl; from = refl; to = refl; none = λ j p q. zero_first j }
first_key_lem (negsuc a) (pos (suc b)) t = rw (leb-suc-zero b) (record { id = pos zero; key = refl; from = refl; to = leb-zero (suc b); none = λ j p q. zero_first j })
first_key_lem (negsuc a) (negsuc b) t = record { id = negsuc b; key = refl; from = t; to = le_self (negsuc b); none = λ j p q. down b j q }

-- no id of a range comes after its largest, where none is negative or the largest is positive, nor after its least, where none is positive
natural_last : (a : ℕ) (hi j : ℤ) → le_z (pos a) j ≡ true → le_z j hi ≡ true → before hi j ≡ false
natural_last a hi (pos n) p q = up n hi q
natural_last a hi (negsuc n) p q = clash p refl

positive_last : (b : ℕ) (j : ℤ) → le_z j (pos (suc b)) ≡ true → before (pos (suc b)) j ≡ false
unfolding before
positive_last b (pos n) q = up n (pos (suc b)) q
positive_last b (negsuc n) q = refl

negative_last : (a : ℕ) (j : ℤ) → le_z (negsuc a) j ≡ true → le_z j (pos zero) ≡ true → before (negsuc a) j ≡ false
unfolding before
negative_last a (pos zero) p q = refl
negative_last a (pos (suc n)) p q = clash q (leb-suc-zero n)
negative_last a (negsuc n) p q = down n (negsuc a) p

below_zero : (b : ℕ) (j : ℤ) → le_z j (negsuc b) ≡ true → le_z j (pos zero) ≡ true
below_zero b (pos n) q = clash q refl
below_zero b (negsuc n) q = refl

pub last_key_lem : (lo hi : ℤ) → le_z lo hi ≡ true → EndKey (λ a b. before b a) lo hi (last_key lo hi)
unfolding last_key
last_key_lem (pos a) hi t = rw (leb-zero a) (record { id = hi; key = refl; from = t; to = le_self hi; none = natural_last a hi })
last_key_lem (negsuc a) (pos zero) t = record { id = negsuc a; key = refl; from = le_self (negsuc a); to = refl; none = negative_last a }
last_key_lem (negsuc a) (pos (suc b)) t = rw (leb-suc-zero b) (record { id = pos (suc b); key = refl; from = refl; to = le_self (pos (suc b)); none = λ j p q. positive_last b j q })
last_key_lem (negsuc a) (negsuc b) t = record { id = negsuc a; key = refl; from = le_self (negsuc a); to = t; none = λ j p q. negative_last a j p (below_zero b j q) }
