-- What the laws of the lookups speak of: membership, the ids between two, and a cursor that is asked again and again.
use Rattle.std.specs.Prelude.{Bool, true, not, List, [], ◌∷◌, ℤ, Option, Ok, Result, ℕ}
use Rattle.std.specs.Bool.{then_some}
use Rattle.base.specs.Bytes.{both}
use Rattle.osm_id.specs.Order.{before, same_id}
use Rattle.sorted.specs.Lookup.{some, ids_before, found_of}
use Rattle.refusal.specs.declared.Refusal.{Refusal}

-- an id is in a list
unfoldable pub is_member : ℤ → List ℤ → Bool
is_member id ids = some (same_id id) ids

-- an id from first to last in OSM order, both included
unfoldable pub between : ℤ → ℤ → ℤ → Bool
between first last id = both (not (before id first)) (not (before last id))

-- an id's place, if it is in a list
unfoldable pub place_in : List ℤ → ℤ → Result (Option ℕ) Refusal
place_in ids id = Ok (then_some (is_member id ids) (ids_before id ids))

-- the answers of a cursor that is asked for one id after the other
unfoldable pub answers : Option ℕ → List ℤ → List ℤ → List (Result (Option ℕ) Refusal)
answers p ids [] = []
answers p ids (id ∷ asked) = (found_of p ids id).answer ∷ answers (found_of p ids id).place ids asked

-- no id comes before the one asked for last
unfoldable pub forward_from : ℤ → List ℤ → Bool
forward_from a [] = true
forward_from a (b ∷ asked) = both (not (before b a)) (forward_from b asked)

-- ids asked for in OSM order, any of them more than once
unfoldable pub forward : List ℤ → Bool
forward [] = true
forward (a ∷ asked) = forward_from a asked
