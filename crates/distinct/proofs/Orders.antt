-- Runs that rise are distinct, and a permutation of runs is distinct where they are.
use Rattle.std.specs.Prelude.{Option, Some, None, Bool}
use Prim.Native.Nat.{ℕ, zero, suc, ◌+◌, ◌-◌, ◌<◌, ◌≤◌, min}
use mathlib.Core.Path.{◌≡◌, refl, sym, ◌∙◌, ap}
use mathlib.Core.Bool.{true, false, cond}
use mathlib.Core.List.{List, [], ◌∷◌}
use native.Mathlib.Omega.{arith}
use lib.ListN.{length, get_or, take, drop, length-map}
use lib.Seq.{take_all}
use Rattle.std.specs.Ordering.{nat_cmp, ordering_then, ordering_reverse, is_eq}
use Rattle.std.specs.Cmp.Lexicographic.{slice_cmp}
use Rattle.std.specs.declared.cmp.Ordering.{Ordering}
use Rattle.std.specs.declared.cmp.Ordering.TheVariants.{Less, Equal, Greater}
use Rattle.std.specs.List.{sum_by}
use Rattle.std.specs.List.Sorted.{IsPermutation}
use Rattle.std.proofs.lemmas.Cmp.{nat_list_cmp_total}
use Rattle.std.proofs.lemmas.Map.Text.{is_eq-slice_cmp}
use Rattle.std.proofs.lemmas.List.{length-drop}
use Rattle.std.proofs.lemmas.List.Sums.{sum_by-cons}
use Rattle.std.proofs.lemmas.List.Sorted.{IsPermutation-map, IsPermutation-sym, sum_by-IsPermutation}
use Rattle.base.specs.Bytes.{Bytes, all, same}
use Rattle.base.proofs.Split.{by_bool, by_le, both_left, both_right, both_of, clash, no, same_test}
use Rattle.base.proofs.Lists.{same_yes, same_refl, all_nil, all_cons, all_head, all_tail}
use Rattle.base.proofs.Equal.{equal}
use Rattle.distinct.specs.Distinct.{differs, distinct, run_in, runs_in, RightOf}
use Rattle.distinct.specs.Check.{run_cmp, run_at, Rises}

-- ---- the order of runs

run_less_less : (a b c : Bytes) → run_cmp a b ≡ Less → run_cmp b c ≡ Less → run_cmp a c ≡ Less
run_less_less a b c p q = nat_list_cmp_total.trans (length a ∷ a) (length b ∷ b) (length c ∷ c) p q

not_less : (o : Ordering) → o ≡ ordering_reverse o → o ≡ Less → ⊥
not_less Less p q = no cc
not_less Equal p q = no cc
not_less Greater p q = no cc

less_unlike : (a b : Bytes) → run_cmp a b ≡ Less → same a b ≡ false
less_unlike a b l =
    by_bool (same a b)
    (λ p. absurd (not_less (run_cmp b b) (nat_list_cmp_total.antisymm (length b ∷ b) (length b ∷ b)) (rw (same_yes a b p) at l)))
    (λ p. p)

then_equal : (o p : Ordering) → ordering_then o p ≡ Equal → p ≡ Equal
then_equal Less p e = no cc
then_equal Equal p e = e
then_equal Greater p e = no cc

pub equal_runs : (a b : Bytes) → run_cmp a b ≡ Equal → a ≡ b
equal_runs a b e =
    let q : slice_cmp nat_cmp a b ≡ Equal = then_equal (nat_cmp (length a) (length b)) (slice_cmp nat_cmp a b) e in
    same_yes a b (sym (equal a b (is_eq-slice_cmp a b)) ∙ ap is_eq q)

nothing_left : (xs : Bytes) → length xs ≡ 0 → xs ≡ []
nothing_left [] e = refl
nothing_left (x ∷ xs) e = absurd (omega arith)

-- the part of the bytes where a run lies, as far as it does
pub clamped : (bytes : Bytes) (s n : ℕ) → take (min (min s (length bytes) + n) (length bytes) - min s (length bytes)) (drop (min s (length bytes)) bytes) ≡ take n (drop s bytes)
clamped bytes s n =
    by_le s (length bytes)
    (λ p.
    let e : min s (length bytes) ≡ s = omega arith in
    by_le (s + n) (length bytes)
    (λ q. let f : min (s + n) (length bytes) - s ≡ n = omega arith in rw (e, f))
    (λ q.
    let f : min (s + n) (length bytes) - s ≡ length bytes - s = omega arith in
    rw (e, f) (take_all (length bytes - s) (drop s bytes) (omega (arith, length-drop s bytes)) ∙ sym (take_all n (drop s bytes) (omega (arith, length-drop s bytes))))))
    (λ p.
    let e : min s (length bytes) ≡ length bytes = omega arith in
    let f : min (length bytes + n) (length bytes) - length bytes ≡ 0 = omega arith in
    rw (e, f) (sym (take_all n (drop s bytes) (omega (arith, length-drop s bytes)) ∙ nothing_left (drop s bytes) (omega (arith, length-drop s bytes)))))

-- ---- distinct texts, by their places

differ_each : (t : Bytes) (us : List Bytes) → ((k : ℕ) → k < length us → same t (get_or us k []) ≡ false) → all (differs t) us ≡ true
unfolding differs
differ_each t [] f = all_nil (differs t)
differ_each t (u ∷ us) f = all_cons (differs t) u us (rw (f 0 (omega arith))) (differ_each t us (λ k h. f (suc k) (omega arith)))

differ_at : (t : Bytes) (us : List Bytes) → all (differs t) us ≡ true → (k : ℕ) → k < length us → same t (get_or us k []) ≡ false
unfolding differs
differ_at t [] e k h = absurd (omega arith)
differ_at t (u ∷ us) e zero h = by_bool (same t u) (λ p. clash (rw p at (all_head (differs t) u us e)) refl) (λ p. p)
differ_at t (u ∷ us) e (suc k) h = differ_at t us (all_tail (differs t) u us e) k (omega arith)

pub distinct_by : (ts : List Bytes) → ((j k : ℕ) → j < k → k < length ts → same (get_or ts j []) (get_or ts k []) ≡ false) → distinct ts ≡ true
unfolding distinct
distinct_by [] f = refl
distinct_by (t ∷ ts) f =
    both_of (differ_each t ts (λ k h. f 0 (suc k) (omega arith) (omega arith)))
    (distinct_by ts (λ j k g h. f (suc j) (suc k) (omega arith) (omega arith)))

pub distinct_at : (ts : List Bytes) → distinct ts ≡ true → (j k : ℕ) → j < k → k < length ts → same (get_or ts j []) (get_or ts k []) ≡ false
unfolding distinct
distinct_at [] e j k g h = absurd (omega arith)
distinct_at (t ∷ ts) e j zero g h = absurd (omega arith)
distinct_at (t ∷ ts) e zero (suc k) g h = differ_at t ts (both_left _ _ e) k (omega arith)
distinct_at (t ∷ ts) e (suc j) (suc k) g h = distinct_at ts (both_right _ _ e) j k (omega arith) (omega arith)

run_of : (bytes : Bytes) (words : List ℕ) (h : ℕ) → h < length words → get_or (runs_in bytes words) h [] ≡ run_at bytes words h
run_of bytes [] h g = absurd (omega arith)
run_of bytes (w ∷ ws) zero g = refl
run_of bytes (w ∷ ws) (suc h) g = run_of bytes ws h (omega arith)

-- ---- two equal runs

pub equal_two : (bytes : Bytes) (words : List ℕ) (j k : ℕ) → j < k → k < length words → run_at bytes words j ≡ run_at bytes words k → distinct (runs_in bytes words) ≡ false
equal_two bytes words j k g h e =
    by_bool (distinct (runs_in bytes words))
    (λ p.
    let d = distinct_at (runs_in bytes words) p j k g (omega (arith, length-map words (run_in bytes))) in
    clash (same_refl (run_at bytes words k)) (rw (run_of bytes words j (omega arith), run_of bytes words k h, e) at d))
    (λ p. p)

-- ---- the law

module _ (bytes : Bytes) (words : List ℕ) (rise : Rises bytes words (length words)) where
  climb : (i d : ℕ) → i + d + 1 < length words → run_cmp (run_at bytes words i) (run_at bytes words (i + d + 1)) ≡ Less
  climb i zero h = let e : i + zero + 1 ≡ i + 1 = omega arith in rw e (rise i (omega arith))
  climb i (suc d) h =
      let e : i + suc d + 1 ≡ i + d + 1 + 1 = omega arith in
      rw e (run_less_less (run_at bytes words i) (run_at bytes words (i + d + 1)) (run_at bytes words (i + d + 1 + 1)) (climb i d (omega arith)) (rise (i + d + 1) (omega arith)))

  climbs : (i j : ℕ) → i < j → j < length words → run_cmp (run_at bytes words i) (run_at bytes words j) ≡ Less
  climbs i j g h = let e : i + (j - i - 1) + 1 ≡ j = omega arith in rw e at (climb i (j - i - 1) (omega arith))

  pub rising_differ : distinct (runs_in bytes words) ≡ true
  rising_differ =
      distinct_by (runs_in bytes words)
      (λ j k l h.
      let g : k < length words = omega (arith, length-map words (run_in bytes)) in
      rw (run_of bytes words j (omega arith), run_of bytes words k g) (less_unlike (run_at bytes words j) (run_at bytes words k) (climbs j k l g)))

-- ---- the same runs in another order

-- how often a text stands among others
hits : Bytes → Bytes → ℕ
hits t u = cond (same t u) 1 0

hit_more : (t u : Bytes) (us : List Bytes) → sum_by (hits t) (u ∷ us) ≡ hits t u + sum_by (hits t) us
hit_more t u us = sum_by-cons (hits t) u us

hit_yes : (t u : Bytes) → same t u ≡ true → hits t u ≡ 1
unfolding hits
hit_yes t u e = rw e

hit_no : (t u : Bytes) → same t u ≡ false → hits t u ≡ 0
unfolding hits
hit_no t u e = rw e

differ_no : (t u : Bytes) → differs t u ≡ true → same t u ≡ false
unfolding differs
differ_no t u e = by_bool (same t u) (λ p. clash (rw p at e) refl) (λ p. p)

no_differ : (t u : Bytes) → same t u ≡ false → differs t u ≡ true
unfolding differs
no_differ t u e = rw e

none_hit : (t : Bytes) (us : List Bytes) → all (differs t) us ≡ true → sum_by (hits t) us ≡ 0
none_hit t [] e = refl
none_hit t (u ∷ us) e = omega (arith, hit_more t u us, hit_no t u (differ_no t u (all_head (differs t) u us e)), none_hit t us (all_tail (differs t) u us e))

hit_none : (t : Bytes) (us : List Bytes) → sum_by (hits t) us ≡ 0 → all (differs t) us ≡ true
hit_none t [] e = all_nil (differs t)
hit_none t (u ∷ us) e =
    by_bool (same t u)
    (λ p. absurd (omega (arith, hit_more t u us, hit_yes t u p)))
    (λ p. all_cons (differs t) u us (no_differ t u p) (hit_none t us (omega (arith, hit_more t u us))))

at_most_once : (ts : List Bytes) → distinct ts ≡ true → (t : Bytes) → sum_by (hits t) ts ≤ 1
unfolding distinct
at_most_once [] e t = omega arith
at_most_once (u ∷ us) e t =
    by_bool (same t u)
    (λ p. omega (arith, hit_more t u us, hit_yes t u p, none_hit t us (rw (sym (same_yes t u p)) at (both_left _ _ e))))
    (λ p. omega (arith, hit_more t u us, hit_no t u p, at_most_once us (both_right _ _ e) t))

once_each : (ts : List Bytes) → ((t : Bytes) → sum_by (hits t) ts ≤ 1) → distinct ts ≡ true
unfolding distinct
once_each [] f = refl
once_each (u ∷ us) f =
    both_of (hit_none u us (omega (arith, f u, hit_more u u us, hit_yes u u (same_refl u))))
    (once_each us (λ t. omega (arith, f t, hit_more t u us)))

distinct_moved : (xs ys : List Bytes) → IsPermutation xs ys → distinct xs ≡ true → distinct ys ≡ true
distinct_moved xs ys p e = once_each ys (λ t. omega (arith, sum_by-IsPermutation (hits t) xs ys p, at_most_once xs e t))

pub distinct_sorted : (bytes : Bytes) (words sorted : List ℕ) → IsPermutation words sorted → distinct (runs_in bytes sorted) ≡ distinct (runs_in bytes words)
distinct_sorted bytes words sorted p =
    let q : IsPermutation (runs_in bytes words) (runs_in bytes sorted) = IsPermutation-map (run_in bytes) words sorted p in
    same_test (distinct (runs_in bytes sorted)) (distinct (runs_in bytes words))
    (distinct_moved (runs_in bytes sorted) (runs_in bytes words) (IsPermutation-sym (runs_in bytes words) (runs_in bytes sorted) q))
    (distinct_moved (runs_in bytes words) (runs_in bytes sorted) q)

-- runs whose words rise in some order all differ
pub all_differ : (bytes : Bytes) (words sorted : List ℕ) → IsPermutation words sorted → Rises bytes sorted (length sorted) → distinct (runs_in bytes words) ≡ true
all_differ bytes words sorted p rise = sym (distinct_sorted bytes words sorted p) ∙ rising_differ bytes sorted rise

-- what is right of a test is right of one that agrees
pub right_as : (o : Option Bool) (a b : Bool) → a ≡ b → RightOf o b → RightOf o a
right_as (Some t) a b e r = e ∙ r
right_as None a b e r = r
