-- Document 01, "Forms that must change": "id tables held in OSM order in lent storage". A table is a map from an id's rank to what is known of it.
use Rattle.std.specs.Prelude.{ℕ, suc, Bool, true, cond, List, [], ◌∷◌, ltb, eqb, Err, None, Ok, Option, Result, Some}
use Rattle.base.specs.Bytes.{both}
use Rattle.kind_table.specs.declared.Row.{Row}

-- ranks strictly rise: "known ids strictly in OSM order"
unfoldable pub rising_from : ℕ → List Row → Bool
rising_from k [] = true
rising_from k (r ∷ rs) = both (ltb k r.rank) (rising_from r.rank rs)

unfoldable pub rising : List Row → Bool
rising [] = true
rising (r ∷ rs) = rising_from r.rank rs

-- the row of a rank
unfoldable pub find : ℕ → List Row → Option Row
find k [] = None
find k (r ∷ rs) = cond (eqb k r.rank) (Some r) (find k rs)

-- a row in its place, over the row of the same rank if there is one
unfoldable pub put : Row → List Row → List Row
put n [] = n ∷ []
put n (r ∷ rs) = cond (ltb n.rank r.rank) (n ∷ r ∷ rs) (cond (eqb n.rank r.rank) (n ∷ rs) (r ∷ put n rs))

-- how many rows have a smaller rank
unfoldable pub smaller : ℕ → List Row → ℕ
smaller k [] = 0
smaller k (r ∷ rs) = cond (ltb r.rank k) (suc (smaller k rs)) (smaller k rs)

-- a row that was found stands at p; where none was, p is its place
unfoldable pub at_or_place : Option Row → ℕ → Result ℕ ℕ
at_or_place (Some r) p = Ok p
at_or_place None p = Err p

-- where the row of a rank stands, or where it belongs: behind the rows of smaller ranks
unfoldable pub position_of : ℕ → List Row → Result ℕ ℕ
position_of k rs = at_or_place (find k rs) (smaller k rs)
