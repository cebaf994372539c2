-- The forward cursor: it stands at the farther of its place and the id's, answers every id that is asked for in order, and none behind its place.
use Rattle.std.specs.Prelude.{None, Option, Some, Ok}
use Rattle.std.specs.Bool.{then_some}
use Prim.Native.Nat.{ℕ, zero, suc, ◌+◌, ◌-◌, ◌<◌, ◌≤◌, max}
use mathlib.Core.Path.{◌≡◌, refl, sym, ◌∙◌, ap}
use mathlib.Core.Bool.{true}
use mathlib.Core.List.{List, [], ◌∷◌, map}
use native.Mathlib.Omega.{arith}
use lib.Dec.{ltb}
use lib.IntN.{ℤ, pos}
use lib.ListN.{length, drop_of_length-le}
use lib.Seq.{drop-cons}
use borrow.Author.Tests.{lt-ltb, le-ltb, ltb-true, not-true}
use Rattle.base.proofs.Split.{by_bool, by_lt, both_left, both_right, both_no_left}
use Rattle.osm_id.specs.Order.{same_id}
use Rattle.osm_id.proofs.Orders.{same_is}
use Rattle.sorted.specs.Lookup.{id_at, in_order, ids_before, ids_up_to, advance, reached, stands_at, found_of}
use Rattle.sorted.specs.Asked.{place_in, answers, forward_from, forward}
use Rattle.sorted.proofs.Lookups.{smaller_le, at_smaller, at_is, stands, member, smaller_rises}

module _ (ids : List ℤ) (o : in_order ids ≡ true) (id : ℤ) where
  -- ---- where the cursor stands

  stays : (p : ℕ) → ids_before id ids ≤ p → reached (Some p) id ids ≡ p
  unfolding advance
  stays p g =
      by_lt p (length ids)
      (λ h. rw (drop-cons ids p (pos 0) h, at_smaller id ids o p h, le-ltb p (ids_before id ids) g))
      (λ h. rw (drop_of_length-le ids h))

  moves : (n p : ℕ) → p + n ≡ ids_before id ids → reached (Some p) id ids ≡ ids_before id ids
  unfolding advance
  moves zero p e = stays p (omega arith) ∙ omega arith
  moves (suc n) p e =
      let l : p < ids_before id ids = omega arith in
      let h : p < length ids = omega (arith, smaller_le id ids) in
      rw (drop-cons ids p (pos 0) h, at_smaller id ids o p h, lt-ltb p (ids_before id ids) l) (moves n (suc p) (omega arith))

  goes : (p : ℕ) → p ≤ ids_before id ids → reached (Some p) id ids ≡ ids_before id ids
  goes p h = moves (ids_before id ids - p) p (omega arith)

  pub starts : reached None id ids ≡ ids_before id ids
  starts = stays (ids_before id ids) (omega arith)

  pub farther : (p : ℕ) → max p (ids_before id ids) ≡ reached (Some p) id ids
  farther p = by_lt p (ids_before id ids) (λ l. omega (arith, goes p (omega arith))) (λ l. omega (arith, stays p l))

  reaches : (p : Option ℕ) → ids_before id ids ≤ reached p id ids
  reaches None = omega (arith, starts)
  reaches (Some p) = omega (arith, farther p)

  -- ---- what it answers

  pub found_is : (p : Option ℕ) {n : ℕ} → n ≡ reached p id ids → record { place = Some n; answer = Ok (then_some (ltb n (ids_up_to id ids)) n) } ≡ found_of p ids id
  unfolding found_of
  found_is p e = rw (e, o, at_is id ids o (reached p id ids) (reaches p))

  -- a cursor that is not past the id's place answers as the list does
  pub fresh : found_of None ids id ≡ record { place = Some (ids_before id ids); answer = place_in ids id }
  unfolding found_of place_in
  fresh = rw (o, starts, member ids o id)

  pub ahead : (p : ℕ) → p ≤ ids_before id ids → found_of (Some p) ids id ≡ record { place = Some (ids_before id ids); answer = place_in ids id }
  unfolding found_of place_in
  ahead p h = rw (o, goes p h, member ids o id)

  -- an id behind the cursor's place is answered none
  pub behind : (p : ℕ) → ids_before id ids < p → found_of (Some p) ids id ≡ record { place = Some p; answer = Ok None }
  unfolding found_of stands_at
  behind p l =
      rw (o, stays p (omega arith))
      (by_bool (stands_at id p ids)
      (λ e.
      let h : p < length ids = ltb-true _ _ (both_left _ _ e) in
      let q : id_at ids p ≡ id = sym ((same_is _ _).0 (both_right _ _ e)) in
      let s : ids_before id ids ≡ p = rw q at (stands ids o p h) in
      absurd (omega arith))
      (λ e. rw e))

  -- a place past the list is kept, and nothing is found there
  pub past : (p : ℕ) → length ids ≤ p → found_of (Some p) ids id ≡ record { place = Some p; answer = Ok None }
  unfolding found_of stands_at
  past p h = rw (o, stays p (omega (arith, smaller_le id ids)), both_no_left _ (same_id id (id_at ids p)) (le-ltb p (length ids) h))

-- ---- a cursor that is asked for ids in order finds every id of the list, at its place

module _ (ids : List ℤ) (o : in_order ids ≡ true) where
  onward : (p : ℕ) (a : ℤ) (asked : List ℤ) → p ≤ ids_before a ids → forward_from a asked ≡ true → answers (Some p) ids (a ∷ asked) ≡ map (place_in ids) (a ∷ asked)
  unfolding answers forward_from
  onward p a [] h f = rw (ahead ids o a p h)
  onward p a (b ∷ asked) h f =
      rw (ahead ids o a p h)
      (ap (λ l. place_in ids a ∷ l) (onward (ids_before a ids) b asked (smaller_rises ids o a b (not-true _ (both_left _ _ f))) (both_right _ _ f)))

  pub complete : (asked : List ℤ) → forward asked ≡ true → answers None ids asked ≡ map (place_in ids) asked
  unfolding answers forward
  complete [] f = refl
  complete (a ∷ asked) f = rw (fresh ids o a ∙ sym (ahead ids o a 0 (omega arith))) (onward 0 a asked (omega arith) f)
