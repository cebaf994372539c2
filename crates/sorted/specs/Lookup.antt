-- Document 01, sorted.rs: lookups in lent lists of ids. A list is lent as the bits of its ids; 20 is "ids not strictly in OSM order".
use Rattle.std.specs.Prelude.{ℕ, suc, Bool, true, false, cond, not, List, [], ◌∷◌, map, ltb, ℤ, pos, length, drop, get_or, None, Option, Some, Ok, Err, Result}
use Prim.Native.Nat.{max}
use Rattle.std.specs.Bool.{then_some}
use Rattle.std.specs.Int.{w64}
use Rattle.std.proofs.Common.{to_z}
use Rattle.base.specs.Bytes.{both, either}
use Rattle.osm_id.specs.Order.{before, same_id, osm_key_of, id_key_before, first_key, last_key}
use Rattle.osm_id.specs.declared.OsmIdKey.{OsmIdKey}
use Rattle.refusal.specs.declared.Refusal.{Refusal}
use Rattle.refusal.specs.declared.Refusal.TheVariants.{NotInOrder}
use Rattle.sorted.specs.declared.IdRange.{IdRange}

-- the ids of a list of words
abbrev pub ids_of : List ℕ → List ℤ
ids_of ws = map (to_z w64) ws

-- the id at a place; 0 past the end
abbrev pub id_at : List ℤ → ℕ → ℤ
id_at ids p = get_or ids p (pos 0)

-- how many ids pass a test
unfoldable pub count : (ℤ → Bool) → List ℤ → ℕ
count t [] = 0
count t (a ∷ ids) = cond (t a) (suc (count t ids)) (count t ids)

-- some id passes a test
unfoldable pub some : (ℤ → Bool) → List ℤ → Bool
some t [] = false
some t (a ∷ ids) = either (t a) (some t ids)

-- ---- 20

-- every id after the first comes after the one before it
unfoldable pub ids_rising_from : ℤ → List ℤ → Bool
ids_rising_from a [] = true
ids_rising_from a (b ∷ ids) = both (before a b) (ids_rising_from b ids)

-- "ids strictly in OSM order"
unfoldable pub in_order : List ℤ → Bool
in_order [] = true
in_order (a ∷ ids) = ids_rising_from a ids

-- ---- range_overlaps

-- a key from first to last, both included
unfoldable pub key_within : OsmIdKey → OsmIdKey → ℤ → Bool
key_within first last id = both (not (id_key_before (osm_key_of id) first)) (not (id_key_before last (osm_key_of id)))

abbrev pub any_within : OsmIdKey → OsmIdKey → List ℤ → Bool
any_within first last ids = some (key_within first last) ids

-- some id of the two lists has its key in the span of the numbers from lo to hi (blob_osm_first_key to blob_osm_last_key)
unfoldable pub overlaps : List ℤ → List ℤ → ℤ → ℤ → Bool
overlaps live deleted lo hi = either (any_within (first_key lo hi) (last_key lo hi) live) (any_within (first_key lo hi) (last_key lo hi) deleted)

unfoldable pub overlap_of : List ℤ → List ℤ → ℤ → ℤ → Result Bool Refusal
overlap_of live deleted lo hi = cond (both (in_order live) (in_order deleted)) (Ok (overlaps live deleted lo hi)) (Err NotInOrder)

-- ---- positions

-- how many ids come before an id: its place, or the place where it would stand
unfoldable pub ids_before : ℤ → List ℤ → ℕ
ids_before id ids = count (λ a. before a id) ids

-- how many ids do not come after an id
unfoldable pub ids_up_to : ℤ → List ℤ → ℕ
ids_up_to id ids = count (λ a. not (before id a)) ids

-- an id's key is smaller than a key or, with true, not larger: what a search counts
unfoldable pub under : Bool → OsmIdKey → ℤ → Bool
under false key id = id_key_before (osm_key_of id) key
under true key id = not (id_key_before key (osm_key_of id))

abbrev pub places_from : ℕ → ℕ → Result IdRange Refusal
places_from s e = Ok (record { from = s; to = e })

-- upsert_range: the places of the ids from first to last; none, at the place of the first, where last comes before first
unfoldable pub range_of : List ℤ → ℤ → ℤ → Result IdRange Refusal
range_of ids first last =
    cond (in_order ids) (places_from (ids_before first ids) (max (ids_before first ids) (ids_up_to last ids))) (Err NotInOrder)

-- ---- Seek::find

-- the first place from p on whose id does not come before the id asked for, else the list's end
unfoldable pub advance : ℤ → ℕ → List ℤ → ℕ
advance id p [] = p
advance id p (a ∷ ids) = cond (before a id) (advance id (suc p) ids) p

-- where a cursor stands once it is asked: where it stood, or at first where the id belongs
abbrev pub standing : Option ℕ → ℤ → List ℤ → ℕ
standing None id ids = ids_before id ids
standing (Some p) id ids = p

-- the cursor moves forward alone, up to the id; "an id behind its place is answered none"
abbrev pub reached : Option ℕ → ℤ → List ℤ → ℕ
reached p id ids = advance id (standing p id ids) (drop (standing p id ids) ids)

-- the id stands at a place
unfoldable pub stands_at : ℤ → ℕ → List ℤ → Bool
stands_at id p ids = both (ltb p (length ids)) (same_id id (id_at ids p))

-- where the cursor stands then, and the answer
pub record Found : Type 0 where
  pub place : Option ℕ
  pub answer : Result (Option ℕ) Refusal

unfoldable pub found_of : Option ℕ → List ℤ → ℤ → Found
found_of p ids id =
    cond (in_order ids)
    (record { place = Some (reached p id ids); answer = Ok (then_some (stands_at id (reached p id ids) ids) (reached p id ids)) })
    (record { place = p; answer = Err NotInOrder })
