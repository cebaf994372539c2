-- A list of ids in order as `SortedIds` holds it.
use Rattle.std.specs.Prelude.{ℕ, List, cond, Ok, Err, Result}
use Rattle.refusal.specs.declared.Refusal.{Refusal}
use Rattle.refusal.specs.declared.Refusal.TheVariants.{NotInOrder}
use Rattle.sorted.specs.Lookup.{ids_of, in_order}
use Rattle.sorted.specs.declared.SortedIds.{SortedIds}

-- the list that it holds
abbrev pub ids_answered : Result SortedIds Refusal → Result (List ℕ) Refusal
ids_answered (Ok s) = Ok s.ids.now
ids_answered (Err r) = Err r

-- the list, or refused 20 where its ids are not in order
unfoldable pub sorted_of : List ℕ → Result (List ℕ) Refusal
sorted_of ws = cond (in_order (ids_of ws)) (Ok ws) (Err NotInOrder)
