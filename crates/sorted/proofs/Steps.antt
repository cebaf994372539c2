-- What the steps of the code on words say of their ids.
use Prim.Native.Nat.{ℕ, ◌<◌, ◌≤◌}
use mathlib.Core.Path.{◌≡◌, refl, sym, ◌∙◌, ap}
use mathlib.Core.Bool.{Bool, true, false}
use mathlib.Core.List.{List, [], ◌∷◌}
use native.Mathlib.Omega.{arith}
use lib.Dec.{ltb}
use lib.IntN.{ℤ}
use lib.ListN.{length, get_or, length-map, get_or-map}
use mir.Syntax.{w64}
use mir.Val.{SFits, to_z, of_z}
use mir.Facts.{to_z-of_z}
use borrow.Author.Tests.{lt-ltb, le-ltb, ltb-true}
use Rattle.std.specs.List.Sorted.{IsPartitionedBy, IsPartitionPoint}
use Rattle.std.proofs.lemmas.Grind.{get_or_default_zero}
use Rattle.base.specs.Bytes.{both}
use Rattle.base.proofs.Neighbours.{pass_after, neighbours_pass}
use Rattle.base.proofs.Split.{by_lt, clash}
use Rattle.osm_id.specs.Order.{before, osm_key_of}
use Rattle.osm_id.specs.declared.OsmIdKey.{OsmIdKey}
use Rattle.sorted.specs.Lookup.{ids_of, id_at, count, ids_rising_from, in_order, under, ids_before, ids_up_to}
use Rattle.sorted.proofs.Keys.{under_closed}
use Rattle.sorted.proofs.Counts.{count_le, splits}
use Rattle.sorted.proofs.Lookups.{smaller_keys, up_to_keys}

pub lengths : (ws : List ℕ) → length (ids_of ws) ≡ length ws
lengths ws = length-map ws (to_z w64)

pub word_id : (ws : List ℕ) (i : ℕ) → id_at (ids_of ws) i ≡ to_z w64 (get_or ws i 0)
word_id ws i = get_or-map (to_z w64) ws i 0

-- ---- the order check: the ids of words rise where each word's id comes before the next word's

abbrev pub word_before : ℕ → ℕ → Bool
word_before v w = before (to_z w64 v) (to_z w64 w)

rises_after : (v : ℕ) (ws : List ℕ) → ids_rising_from (to_z w64 v) (ids_of ws) ≡ pass_after word_before v ws
unfolding ids_rising_from pass_after
rises_after v [] = refl
rises_after v (w ∷ ws) = ap (both (word_before v w)) (rises_after w ws)

pub rises : (ws : List ℕ) → in_order (ids_of ws) ≡ neighbours_pass word_before ws
unfolding in_order neighbours_pass
rises [] = refl
rises (v ∷ ws) = rises_after v ws

-- ---- the library's search in words: those that pass stand before those that do not

module _ (through : Bool) (key : OsmIdKey) (ws : List ℕ) (o : in_order (ids_of ws) ≡ true) where
  abbrev pub passes : ℕ → Bool
  passes w = under through key (to_z w64 w)

  at_place : (k d : ℕ) → k < length ws → passes (get_or ws k d) ≡ ltb k (count (under through key) (ids_of ws))
  at_place k d h =
      ap passes (get_or_default_zero ws k d h)
      ∙ (ap (under through key) (sym (word_id ws k)) ∙ splits (under_closed through key) (ids_of ws) o k (omega (arith, lengths ws)))

  pub parted : IsPartitionedBy passes ws
  parted i j d l m e =
      let n = count (under through key) (ids_of ws) in
      let f : j < n = ltb-true j n (sym (at_place j d m) ∙ e) in
      at_place i d (omega arith) ∙ lt-ltb i n (omega arith)

  pub counted_at : (i : ℕ) → i ≤ length ws → IsPartitionPoint (λ y. passes y ≡ true) (λ y. passes y ≡ false) ws i → i ≡ count (under through key) (ids_of ws)
  counted_at i h s =
      let n = count (under through key) (ids_of ws) in
      let most : n ≤ length ws = omega (arith, count_le (under through key) (ids_of ws), lengths ws) in
      by_lt i n
      (λ l. clash (at_place i 0 (omega arith) ∙ lt-ltb i n l) (s.1 i 0 (omega arith) (omega arith)))
      (λ g. by_lt n i
      (λ l. clash (s.0 n 0 (omega arith) l) (at_place n 0 (omega arith) ∙ le-ltb n n (omega arith)))
      (λ k. omega arith))

-- ---- a search for the key of an id: a signed argument reaches the callee by its bits, so the id stands in what the call ensures as it is read back from them

module _ {id : ℤ} (f : SFits w64 id) {key : OsmIdKey} (k : key ≡ osm_key_of (to_z w64 (of_z w64 id))) where
  key_is : key ≡ osm_key_of id
  key_is = rw (to_z-of_z f) at k

  pub smaller_counted : (ids : List ℤ) {n : ℕ} → n ≡ count (under false key) ids → n ≡ ids_before id ids
  smaller_counted ids e = e ∙ ap (λ x. count (under false x) ids) key_is ∙ sym (smaller_keys id ids)

  pub up_to_counted : (ids : List ℤ) {n : ℕ} → n ≡ count (under true key) ids → n ≡ ids_up_to id ids
  up_to_counted ids e = e ∙ ap (λ x. count (under true x) ids) key_is ∙ sym (up_to_keys id ids)
