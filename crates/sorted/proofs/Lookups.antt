-- The lookups of document 01, by place and membership: positions, spans and overlaps.
use Prim.Native.Nat.{ℕ, zero, suc, ◌<◌, ◌≤◌, max}
use mathlib.Core.Path.{◌≡◌, refl, sym, ◌∙◌, ap, fun_ext}
use mathlib.Core.Bool.{Bool, true, false, not}
use mathlib.Core.List.{List, [], ◌∷◌}
use mathlib.Core.Logic.{◌↔◌}
use native.Mathlib.Omega.{arith}
use lib.Dec.{ltb, leb}
use lib.IntN.{ℤ}
use lib.ListN.{length}
use borrow.Author.Tests.{lt-ltb, le-ltb, ltb-true, ltb-false, le-leb, lt-leb, not-true}
use Rattle.base.specs.Bytes.{both, either}
use Rattle.base.proofs.Split.{by_bool, by_lt, clash, no, both_left, both_right, both_of, either_left, either_right, by_either, same_test}
use Rattle.base.proofs.Strict.{by_order, not_less}
use Rattle.osm_id.specs.Order.{before, same_id, osm_key_of, first_key, last_key}
use Rattle.osm_id.specs.declared.OsmIdKey.{OsmIdKey}
use Rattle.osm_id.proofs.Orders.{order, same_is, key_before}
use Rattle.sorted.specs.Lookup.{id_at, count, some, ids_rising_from, in_order, key_within, any_within, overlaps, under, ids_before, ids_up_to, stands_at, places_from, range_of}
use Rattle.sorted.specs.Asked.{is_member, between}
use Rattle.sorted.specs.declared.IdRange.{IdRange}
use Rattle.refusal.specs.declared.Refusal.{Refusal}
use Rattle.std.specs.Prelude.{Ok, Err, Result}
use Rattle.sorted.proofs.Keys.{under_closed}
use Rattle.sorted.proofs.Counts.{tail, count_le, splits}

not_below : (n : ℕ) → ltb n n ≡ false
not_below n = le-ltb n n (omega arith)

-- ---- some id passes a test: there is a place of such an id, and such a member

pub some_at : (t : ℤ → Bool) (ids : List ℤ) (k : ℕ) → k < length ids → t (id_at ids k) ≡ true → some t ids ≡ true
unfolding some
some_at t [] k h e = absurd (omega arith)
some_at t (a ∷ ids) zero h e = either_left _ _ e
some_at t (a ∷ ids) (suc k) h e = either_right _ (some_at t ids k (omega arith) e)

pub some_place : (t : ℤ → Bool) (ids : List ℤ) → some t ids ≡ true → (k : ℕ) × (k < length ids) × (t (id_at ids k) ≡ true)
unfolding some
some_place t [] e = clash e refl
some_place t (a ∷ ids) e =
    by_either (t a) (some t ids) e
    (λ y. (0, omega arith, y))
    (λ y. let p = some_place t ids y in (suc p.0, omega (arith, p.1), p.2))

pub some_is : (t : ℤ → Bool) (ids : List ℤ) → (some t ids ≡ true) ↔ ((id : ℤ) × (is_member id ids ≡ true) × (t id ≡ true))
unfolding is_member
some_is t ids = (
  (λ e. let p = some_place t ids e in (id_at ids p.0, some_at (same_id _) ids p.0 p.1 ((same_is _ _).1 refl), p.2)),
  (λ w. let p = some_place (same_id w.0) ids w.1 in some_at t ids p.0 p.1 (rw (← (same_is _ _).0 p.2) w.2)),
)

-- ---- an id of a list in order comes before every later one

after : (a : ℤ) (ids : List ℤ) → ids_rising_from a ids ≡ true → (k : ℕ) → k < length ids → before a (id_at ids k) ≡ true
unfolding ids_rising_from
after a [] r k h = absurd (omega arith)
after a (b ∷ ids) r zero h = both_left _ _ r
after a (b ∷ ids) r (suc k) h = order.transitive a b _ (both_left _ _ r) (after b ids (both_right _ _ r) k (omega arith))

pub later : (ids : List ℤ) → in_order ids ≡ true → (j k : ℕ) → j < k → k < length ids → before (id_at ids j) (id_at ids k) ≡ true
unfolding in_order
later [] r j k l h = absurd (omega arith)
later (a ∷ ids) r j zero l h = absurd (omega arith)
later (a ∷ ids) r zero (suc k) l h = after a ids r k (omega arith)
later (a ∷ ids) r (suc j) (suc k) l h = later ids (tail a ids r) j k (omega arith) (omega arith)

-- ---- positions: the number of ids with a smaller key, or with a key that is not larger

module _ (id : ℤ) (ids : List ℤ) where
  pub smaller_keys : ids_before id ids ≡ count (under false (osm_key_of id)) ids
  unfolding ids_before under
  smaller_keys = ap (λ t. count t ids) (fun_ext (λ a. sym (key_before a id)))

  pub up_to_keys : ids_up_to id ids ≡ count (under true (osm_key_of id)) ids
  unfolding ids_up_to under
  up_to_keys = ap (λ t. count t ids) (fun_ext (λ a. ap not (sym (key_before id a))))

  pub smaller_le : ids_before id ids ≤ length ids
  unfolding ids_before
  smaller_le = count_le _ ids

  pub up_to_le : ids_up_to id ids ≤ length ids
  unfolding ids_up_to
  up_to_le = count_le _ ids

  module _ (o : in_order ids ≡ true) where
    module _ (k : ℕ) (h : k < length ids) where
      -- an id of the list comes before an id exactly where its place lies below that number
      pub at_smaller : before (id_at ids k) id ≡ ltb k (ids_before id ids)
      unfolding under
      at_smaller = rw (smaller_keys, ← key_before) (splits (under_closed false (osm_key_of id)) ids o k h)

      pub at_up_to : not (before id (id_at ids k)) ≡ ltb k (ids_up_to id ids)
      unfolding under
      at_up_to = rw (up_to_keys, ← key_before) (splits (under_closed true (osm_key_of id)) ids o k h)

    -- from the id's own place on, the id stands at a place exactly where the place lies below the number of ids up to the id
    pub at_is : (p : ℕ) → ids_before id ids ≤ p → stands_at id p ids ≡ ltb p (ids_up_to id ids)
    unfolding stands_at
    at_is p g =
        same_test _ _
        (λ e.
        let h : p < length ids = ltb-true _ _ (both_left _ _ e) in
        sym (at_up_to p h) ∙ rw (← (same_is id (id_at ids p)).0 (both_right _ _ e), order.irreflexive id))
        (λ e.
        let u : p < ids_up_to id ids = ltb-true _ _ e in
        let h : p < length ids = omega (arith, up_to_le) in
        both_of (lt-ltb _ _ h) (by_order order id (id_at ids p)
        (λ b. clash b (not-true _ (at_up_to p h ∙ e)))
        (λ q. (same_is id (id_at ids p)).1 q)
        (λ b. clash b (at_smaller p h ∙ le-ltb _ _ g))))

module _ (ids : List ℤ) (o : in_order ids ≡ true) where
  -- an id of the list stands at the number of smaller ids, and the ids up to it end there
  pub stands : (k : ℕ) → k < length ids → ids_before (id_at ids k) ids ≡ k
  stands k h =
      let a = id_at ids k in
      let g : ids_before a ids ≤ k = ltb-false _ _ (sym (at_smaller a ids o k h) ∙ order.irreflexive a) in
      by_lt (ids_before a ids) k
      (λ l. clash (later ids o (ids_before a ids) k l h) (at_smaller a ids o (ids_before a ids) (omega arith) ∙ not_below (ids_before a ids)))
      (λ l. omega arith)

  pub ends : (k : ℕ) → k < length ids → ids_up_to (id_at ids k) ids ≡ suc k
  ends k h =
      let a = id_at ids k in
      let g : k < ids_up_to a ids = ltb-true _ _ (sym (at_up_to a ids o k h) ∙ ap not (order.irreflexive a)) in
      by_lt (suc k) (ids_up_to a ids)
      (λ l.
      let m : suc k < length ids = omega (arith, up_to_le a ids) in
      clash (later ids o k (suc k) (omega arith) m) (not-true _ (at_up_to a ids o (suc k) m ∙ lt-ltb _ _ l)))
      (λ l. omega arith)

  -- an id is in the list exactly where it stands at that number
  pub member : (id : ℤ) → stands_at id (ids_before id ids) ids ≡ is_member id ids
  unfolding stands_at is_member
  member id =
      same_test _ _
      (λ e. some_at (same_id id) ids (ids_before id ids) (ltb-true _ _ (both_left _ _ e)) (both_right _ _ e))
      (λ e.
      let p = some_place (same_id id) ids e in
      let q : id_at ids p.0 ≡ id = sym ((same_is id (id_at ids p.0)).0 p.2) in
      let s : ids_before id ids ≡ p.0 = rw q at (stands p.0 p.1) in
      rw s (both_of (lt-ltb _ _ p.1) p.2))

  -- the number of smaller ids does not fall along the order
  pub smaller_rises : (a b : ℤ) → before b a ≡ false → ids_before a ids ≤ ids_before b ids
  smaller_rises a b f =
      by_lt (ids_before b ids) (ids_before a ids)
      (λ l.
      let k = ids_before b ids in
      let h : k < length ids = omega (arith, smaller_le a ids) in
      clash (at_smaller a ids o k h ∙ lt-ltb _ _ l)
      (not_less order (id_at ids k) b a (at_smaller b ids o k h ∙ not_below k) f))
      (λ l. l)

  -- a key lies from first to last exactly where the number up to last is above the number below first
  pub any_is : (first last : OsmIdKey) → ltb (count (under false first) ids) (count (under true last) ids) ≡ any_within first last ids
  unfolding key_within under
  any_is first last =
      let s = count (under false first) ids in
      let u = count (under true last) ids in
      same_test _ _
      (λ e.
      let h : s < length ids = omega (arith, ltb-true s u e, count_le (under true last) ids) in
      some_at (key_within first last) ids s h (both_of
      (ap not (splits (under_closed false first) ids o s h ∙ not_below s))
      (splits (under_closed true last) ids o s h ∙ e)))
      (λ e.
      let p = some_place (key_within first last) ids e in
      let k = p.0 in
      let l : s ≤ k = ltb-false k s (sym (splits (under_closed false first) ids o k p.1) ∙ not-true _ (both_left _ _ p.2)) in
      let m : k < u = ltb-true k u (sym (splits (under_closed true last) ids o k p.1) ∙ both_right _ _ p.2) in
      lt-ltb s u (omega arith))

-- ---- upsert_range: an id of the list lies between first and last exactly where its place lies in the span

within : (s u k : ℕ) → both (not (ltb k s)) (ltb k u) ≡ both (leb s k) (ltb k (max s u))
unfolding both
within s u k =
    by_lt k s
    (λ l. rw (lt-ltb k s l, lt-leb s k l))
    (λ l. rw (le-ltb k s l, le-leb s k l) (same_test _ _
    (λ t. lt-ltb k (max s u) (omega (arith, ltb-true k u t)))
    (λ t. lt-ltb k u (omega (arith, ltb-true k (max s u) t)))))

-- the two places of a span
abbrev starts_of : Result IdRange Refusal → ℕ
starts_of (Ok r) = r.from
starts_of (Err r) = 0

abbrev ends_of : Result IdRange Refusal → ℕ
ends_of (Ok r) = r.to
ends_of (Err r) = 0

module _ (ids : List ℤ) (first last : ℤ) where
  -- the span of a list in order, by the two numbers
  span_of : {s e : ℕ} → range_of ids first last ≡ places_from s e →
      (in_order ids ≡ true) × (s ≡ ids_before first ids) × (e ≡ max (ids_before first ids) (ids_up_to last ids))
  unfolding range_of
  span_of {s} {e} q =
      by_bool (in_order ids)
      (λ o.
      let r : places_from (ids_before first ids) (max (ids_before first ids) (ids_up_to last ids)) ≡ places_from s e = rw o at q in
      (o, ap starts_of (sym r), ap ends_of (sym r)))
      (λ n. no (cc))

  pub span_is : {s e : ℕ} → range_of ids first last ≡ places_from s e → (k : ℕ) → k < length ids → between first last (id_at ids k) ≡ both (leb s k) (ltb k e)
  unfolding between
  span_is q k h =
      let p = span_of q in
      rw (p.1, p.2, at_smaller first ids p.0 k h, at_up_to last ids p.0 k h) (within (ids_before first ids) (ids_up_to last ids) k)

  -- the span lies in the list
  pub span_fits : {s e : ℕ} → range_of ids first last ≡ places_from s e → (s ≤ e) × (e ≤ length ids)
  span_fits q =
      let p = span_of q in
      omega (arith, p.1, p.2, smaller_le first ids, up_to_le last ids)

  -- "an empty range at the place of the first", where last comes before first
  pub span_none : in_order ids ≡ true → before last first ≡ true → range_of ids first last ≡ places_from (ids_before first ids) (ids_before first ids)
  unfolding range_of
  span_none o b =
      rw o (ap (places_from (ids_before first ids)) (by_lt (ids_before first ids) (ids_up_to last ids)
      (λ m.
      let k = ids_before first ids in
      let h : k < length ids = omega (arith, up_to_le last ids) in
      clash b (not_less order last (id_at ids k) first (not-true _ (at_up_to last ids o k h ∙ lt-ltb _ _ m)) (at_smaller first ids o k h ∙ not_below k)))
      (λ m. omega arith)))

-- ---- range_overlaps: some id of either list has its key in the span

pub overlaps_is : (live deleted : List ℤ) (lo hi : ℤ) → (overlaps live deleted lo hi ≡ true) ↔
    ((id : ℤ) × (either (is_member id live) (is_member id deleted) ≡ true) × (key_within (first_key lo hi) (last_key lo hi) id ≡ true))
unfolding overlaps
overlaps_is live deleted lo hi =
    let t = key_within (first_key lo hi) (last_key lo hi) in (
      (λ e. by_either _ _ e
          (λ y. let w = (some_is t live).0 y in (w.0, either_left _ _ w.1, w.2))
          (λ y. let w = (some_is t deleted).0 y in (w.0, either_right _ w.1, w.2))),
      (λ w. by_either _ _ w.1
          (λ m. either_left _ _ ((some_is t live).1 (w.0, m, w.2)))
          (λ m. either_right _ ((some_is t deleted).1 (w.0, m, w.2)))),
    )
