-- sorted.rs, lookups in lists of ids in order: range_overlaps, upsert_range, Seek::find.
use Rattle.std.specs.Prelude.{None, Option, Some, slice_get}
use Rattle.std.proofs.Common.{◌≡◌, ℕ, zero, suc, ◌+◌, ◌-◌, ◌<◌, ◌≤◌, Bool, true, false, cond, not, eqb, ltb, List, [], ◌∷◌, length, drop, ℤ, sym, refl, ap, ◌∙◌, arith, ltb-false, le-ltb, lt-ltb, eq-eqb, eqb-true}
use Rattle.base.specs.Bytes.{both}
use Rattle.base.proofs.Split.{by_bool, by_lt, clash, both_of, both_left, both_right, both_no_left, same_test}
use Rattle.osm_id.specs.Order.{before, same_id, osm_key_of, id_key_before}
use Rattle.osm_id.specs.declared.OsmIdKey.{OsmIdKey}
use Rattle.osm_id.proofs.Orders.{order, key_before, same_is}
use Rattle.sorted.specs.Lookup.{id_at, count, in_order, key_within, any_within, overlaps, ids_before, ids_up_to, under, advance, standing, reached, stands_at, places_from, range_of, overlap_of, found_of}
use Rattle.sorted.proofs.Keys.{Closed, under_closed}
use Rattle.sorted.proofs.Counts.{splits, tail}
use Rattle.sorted.proofs.Lookups.{some_at, some_place, later, smaller_keys, up_to_keys}
use Rattle.published.specs.Std.{eq_z, is_lt, is_le}
use Rattle.published.specs.OsmId as Rust
use Rattle.published.specs.Sorted as Rust'
use Rattle.refines.specs.Same.{osm_key}
use Rattle.refines.specs.Lookups.{found_from, SameLookups}
use Rattle.refines.proofs.Ids.{same_key, same_first, same_last, cmp_greater}
use Rattle.refines.proofs.Maps.{eq_yes, eq_self, elem_past}

-- ---- comparisons of keys

lt_before : (x y : Rust.OsmIdKey) → is_lt (Rust.cmp x y) ≡ id_key_before (osm_key x) (osm_key y)
unfolding Rust.cmp id_key_before
lt_before x y =
    by_bool (ltb x.class y.class) (λ t. rw t)
    (λ t. by_bool (eqb x.class y.class)
    (λ u. by_bool (ltb x.magnitude y.magnitude) (λ v. rw (t, u, v)) (λ v. by_bool (eqb x.magnitude y.magnitude) (λ q. rw (t, u, v, q)) (λ q. rw (t, u, v, q))))
    (λ u. rw (t, u)))

not_after : (x y : Rust.OsmIdKey) → id_key_before (osm_key y) (osm_key x) ≡ false → is_le (Rust.cmp x y) ≡ true
unfolding Rust.cmp id_key_before
not_after x y f =
    by_bool (ltb x.class y.class) (λ t. rw t)
    (λ t. let l : y.class ≤ x.class = ltb-false x.class y.class t in
    by_bool (eqb x.class y.class)
    (λ u. let e : x.class ≡ y.class = eqb-true x.class y.class u in
    by_bool (ltb x.magnitude y.magnitude) (λ v. rw (t, u, v))
    (λ v. by_bool (eqb x.magnitude y.magnitude) (λ q. rw (t, u, v, q))
    (λ q. let m : y.magnitude ≤ x.magnitude = ltb-false x.magnitude y.magnitude v in
    let n : x.magnitude ≡ y.magnitude → ⊥ = λ i. clash (eq-eqb x.magnitude y.magnitude i) q in
    by_lt y.magnitude x.magnitude
    (λ k. let z : ltb y.magnitude x.magnitude ≡ false = rw (le-ltb y.class x.class (omega arith), eq-eqb y.class x.class (omega arith)) at f in clash (lt-ltb y.magnitude x.magnitude k) z)
    (λ k. absurd (n (omega arith))))))
    (λ u. by_lt y.class x.class
    (λ k. clash refl (rw (lt-ltb y.class x.class k) at f))
    (λ k. clash (eq-eqb x.class y.class (omega arith)) u)))

le_before : (x y : Rust.OsmIdKey) → is_le (Rust.cmp x y) ≡ not (id_key_before (osm_key y) (osm_key x))
le_before x y = by_bool (id_key_before (osm_key y) (osm_key x)) (λ t. rw (t, cmp_greater x y t)) (λ t. rw t (not_after x y t))

module _ (key : Rust.OsmIdKey) (id : ℤ) where
  is_under : is_lt (Rust.cmp (Rust.osm_id_key id) key) ≡ under false (osm_key key) id
  unfolding under
  is_under = lt_before (Rust.osm_id_key id) key ∙ ap (λ (x : OsmIdKey). id_key_before x (osm_key key)) (same_key id)

  is_through : is_le (Rust.cmp (Rust.osm_id_key id) key) ≡ under true (osm_key key) id
  unfolding under
  is_through = le_before (Rust.osm_id_key id) key ∙ ap (λ (x : OsmIdKey). not (id_key_before (osm_key key) x)) (same_key id)

pub lt_id : (a b : ℤ) → is_lt (Rust.osm_id_cmp a b) ≡ before a b
unfolding Rust.osm_id_cmp
lt_id a b = lt_before (Rust.osm_id_key a) (Rust.osm_id_key b) ∙ (ap (λ (x : OsmIdKey). id_key_before x (osm_key (Rust.osm_id_key b))) (same_key a) ∙ (ap (id_key_before (osm_key_of a)) (same_key b) ∙ key_before a b))

-- ---- partition_point

module _ (p t : ℤ → Bool) (same : (a : ℤ) → p a ≡ t a) (closed : Closed t) where
  point : (ids : List ℤ) → in_order ids ≡ true → Rust'.partition_point p ids ≡ count t ids
  unfolding Rust'.partition_point count in_order
  point [] o = refl
  point (a ∷ ids) o =
      by_bool (t a)
      (λ y. rw (same a, y) (ap suc (point ids (tail a ids o))))
      (λ n. let z = splits closed (a ∷ ids) o 0 (omega arith) in
      let c = ltb-false 0 (count t (a ∷ ids)) (sym z ∙ n) in
      rw (same a, n) (rest n c))
    where
      rest : t a ≡ false → count t (a ∷ ids) ≤ 0 → 0 ≡ count t ids
      rest n c = let d : count t ids ≤ 0 = rw n at c in omega arith

-- after the first n ids, as many pass as passed in all, less n
count_drop : (t : ℤ → Bool) → Closed t → (ids : List ℤ) → in_order ids ≡ true → (n : ℕ) → count t (drop n ids) ≡ count t ids - n
unfolding count in_order
count_drop t closed ids o zero = omega arith
count_drop t closed [] o (suc n) = omega arith
count_drop t closed (a ∷ ids) o (suc n) =
    let e = count_drop t closed ids (tail a ids o) n in
    by_bool (t a)
    (λ y. rw y (omega (arith, e)))
    (λ f. let z = splits closed (a ∷ ids) o 0 (omega arith) in
    let c = ltb-false 0 (count t (a ∷ ids)) (sym z ∙ f) in
    let d : count t ids ≤ 0 = rw f at c in
    rw f (omega (arith, e)))

drop_order : (ids : List ℤ) (n : ℕ) → in_order ids ≡ true → in_order (drop n ids) ≡ true
unfolding in_order
drop_order ids zero o = o
drop_order [] (suc n) o = refl
drop_order (a ∷ ids) (suc n) o = drop_order ids n (tail a ids o)

elem_at : (ids : List ℤ) (k : ℕ) → k < length ids → slice_get ids k ≡ Some (id_at ids k)
elem_at [] k h = absurd (omega arith)
elem_at (a ∷ ids) zero h = refl
elem_at (a ∷ ids) (suc k) h = elem_at ids k (omega arith)

-- ---- range_overlaps

module _ (first last : Rust.OsmIdKey) (ids : List ℤ) (o : in_order ids ≡ true) where
  abbrev c : ℕ
  c = count (under false (osm_key first)) ids

  here : (k : ℕ) → k < length ids → under false (osm_key first) (id_at ids k) ≡ ltb k c
  here = splits (under_closed false (osm_key first)) ids o

  hit_at : Rust'.hit first last ids ≡ Rust'.key_at_most last (slice_get ids c)
  unfolding Rust'.hit
  hit_at = ap (λ (k : ℕ). Rust'.key_at_most last (slice_get ids k)) (point (λ id. is_lt (Rust.cmp (Rust.osm_id_key id) first)) (under false (osm_key first)) (is_under first) (under_closed false (osm_key first)) ids o)

  same_hit : Rust'.hit first last ids ≡ any_within (osm_key first) (osm_key last) ids
  unfolding key_within under
  same_hit =
      same_test _ _
      (λ t. by_lt c (length ids)
      (λ h. let y : under true (osm_key last) (id_at ids c) ≡ true = sym (is_through last (id_at ids c)) ∙ (rw (elem_at ids c h) at (sym hit_at ∙ t)) in
      let n : under false (osm_key first) (id_at ids c) ≡ false = here c h ∙ le-ltb c c (omega arith) in
      some_at (key_within (osm_key first) (osm_key last)) ids c h (both_of (ap not n) y))
      (λ h. clash (rw (elem_past ids c h) at (sym hit_at ∙ t)) refl))
      (λ t. let w = some_place (key_within (osm_key first) (osm_key last)) ids t in
      let k = w.0 in
      let a : not (under false (osm_key first) (id_at ids k)) ≡ true = both_left _ _ w.2 in
      let y : under true (osm_key last) (id_at ids k) ≡ true = both_right _ _ w.2 in
      by_lt k c
      (λ l. clash (rw (here k w.1, lt-ltb k c l) at a) refl)
      (λ l. let h : c < length ids = omega (arith, w.1) in
      let z : under true (osm_key last) (id_at ids c) ≡ true =
      by_lt c k (λ m. under_closed true (osm_key last) (id_at ids c) (id_at ids k) (later ids o c k m w.1) y) (λ m. let q : c ≡ k = omega arith in rw q y) in
      hit_at ∙ rw (elem_at ids c h) (is_through last (id_at ids c) ∙ z)))

same_overlaps : (live deleted : List ℤ) → in_order live ≡ true → in_order deleted ≡ true → (lo hi : ℤ) → Rust'.range_overlaps live deleted lo hi ≡ overlaps live deleted lo hi
unfolding Rust'.range_overlaps overlaps
same_overlaps live deleted o q lo hi =
    rw (← same_first lo hi, ← same_last lo hi, same_hit (Rust.blob_osm_first_key lo hi) (Rust.blob_osm_last_key lo hi) live o, same_hit (Rust.blob_osm_first_key lo hi) (Rust.blob_osm_last_key lo hi) deleted q)

-- ---- upsert_range, whose last key is that of an id

module _ (ids : List ℤ) (o : in_order ids ≡ true) (first last : ℤ) where
  starts : (Rust'.upsert_range ids first (Rust.osm_id_key last)).start ≡ ids_before first ids
  unfolding Rust'.upsert_range
  starts =
      point (λ id. is_lt (Rust.cmp (Rust.osm_id_key id) (Rust.osm_id_key first))) (under false (osm_key (Rust.osm_id_key first))) (is_under (Rust.osm_id_key first)) (under_closed false (osm_key (Rust.osm_id_key first))) ids o
      ∙ (ap (λ (x : OsmIdKey). count (under false x) ids) (same_key first) ∙ sym (smaller_keys first ids))

  ends : (Rust'.upsert_range ids first (Rust.osm_id_key last)).end ≡ (ids_up_to last ids - ids_before first ids) + ids_before first ids
  unfolding Rust'.upsert_range
  ends =
      let n = (Rust'.upsert_range ids first (Rust.osm_id_key last)).start in
      let key = Rust.osm_id_key last in
      let p = point (λ id. is_le (Rust.cmp (Rust.osm_id_key id) key)) (under true (osm_key key)) (is_through key) (under_closed true (osm_key key)) (drop n ids) (drop_order ids n o) in
      let d = count_drop (under true (osm_key key)) (under_closed true (osm_key key)) ids o n in
      let u : count (under true (osm_key key)) ids ≡ ids_up_to last ids = ap (λ (x : OsmIdKey). count (under true x) ids) (same_key last) ∙ sym (up_to_keys last ids) in
      ap (λ (x : ℕ). x + n) (p ∙ d) ∙ rw (u, starts)

  same_range : range_of ids first last ≡ places_from (Rust'.upsert_range ids first (Rust.osm_id_key last)).start (Rust'.upsert_range ids first (Rust.osm_id_key last)).end
  unfolding range_of
  same_range =
      rw (o, starts, ends) (ap (places_from (ids_before first ids)) (omega arith))

-- ---- Seek::find

seeks : (id : ℤ) (pos : ℕ) (ids : List ℤ) → Rust'.seek_on pos ids id ≡ advance id pos ids
unfolding Rust'.seek_on advance
seeks id pos [] = refl
seeks id pos (a ∷ ids) = rw (lt_id a id) (ap (λ (x : ℕ). cond (before a id) x pos) (seeks id (suc pos) ids))

before_closed : (id : ℤ) → Closed (λ a. before a id)
before_closed id a b s t = order.transitive a b id s t

same_standing : (seek : Option ℕ) (ids : List ℤ) → in_order ids ≡ true → (id : ℤ) → Rust'.seek_start seek ids id ≡ standing seek id ids
unfolding ids_before
same_standing None ids o id = point (λ x. is_lt (Rust.osm_id_cmp x id)) (λ a. before a id) (λ a. lt_id a id) (before_closed id) ids o
same_standing (Some p) ids o id = refl

same_stands : (ids : List ℤ) (pos : ℕ) (id : ℤ) → Rust'.found_at pos (slice_get ids pos) id ≡ cond (stands_at id pos ids) (Some pos) None
unfolding stands_at both
same_stands ids pos id =
    by_lt pos (length ids)
    (λ h. rw (elem_at ids pos h, lt-ltb pos (length ids) h) (ap (λ (b : Bool). cond b (Some pos) None) (swapped (id_at ids pos))))
    (λ h. rw (elem_past ids pos h, both_no_left _ (same_id id (id_at ids pos)) (le-ltb pos (length ids) h)))
  where
    swapped : (x : ℤ) → eq_z x id ≡ both true (same_id id x)
    swapped x =
        same_test (eq_z x id) (same_id id x)
        (λ t. (same_is id x).1 (sym (eq_yes x id t)))
        (λ t. rw ((same_is id x).0 t) (eq_self x))

module _ (seek : Option ℕ) (ids : List ℤ) (o : in_order ids ≡ true) (id : ℤ) where
  same_place : (Rust'.find seek ids id).seek ≡ Some (reached seek id ids)
  unfolding Rust'.find
  same_place = ap Some (rw (same_standing seek ids o id) (seeks id (standing seek id ids) (drop (standing seek id ids) ids)))

  same_found : (Rust'.find seek ids id).found ≡ cond (stands_at id (reached seek id ids) ids) (Some (reached seek id ids)) None
  unfolding Rust'.find
  same_found =
      rw (same_standing seek ids o id, seeks id (standing seek id ids) (drop (standing seek id ids) ids)) (same_stands ids (reached seek id ids) id)

-- ---- the three, up to what their callers get

module _ (live deleted : List ℤ) (o : in_order live ≡ true) (q : in_order deleted ≡ true) where
  found_same : (seek : Option ℕ) (id : ℤ) → found_of seek live id ≡ found_from (Rust'.find seek live id)
  unfolding found_of
  found_same seek id =
      rw (o, same_place seek live o id, same_found seek live o id)
      (by_bool (stands_at id (reached seek id live) live) (λ t. rw t) (λ t. rw t))

  pub lookups_same : SameLookups live deleted
  unfolding overlap_of
  lookups_same =
      record {
        overlap = λ lo hi. rw (same_overlaps live deleted o q lo hi, both_of o q);
        range = λ first last. same_range live o first last;
        found = found_same;
      }
