-- "A call .. is refused when, and only when, .. a condition of the table holds at its place": the listing's conditions in order, 22, then 19.
use Rattle.std.specs.Prelude.{List, [], ◌∷◌, ltb, length, Err, None, Ok, Option, Result, Some, ℕ}
use Rattle.base.specs.Bytes.{Bytes}
use Rattle.refusal.specs.declared.Refusal.{Refusal}
use Rattle.refusal.specs.declared.Refusal.TheVariants as R
use Rattle.overlay.specs.Overlay.{Overlay}
use Rattle.refusal.specs.First.{ConditionRow, row}
use Rattle.overlay.specs.First.{unsound_row}
use Rattle.listing.specs.Call.{page_of, most_bytes}

abbrev pub listing_table : Bytes → Overlay → List (ConditionRow Refusal)
listing_table out o = unsound_row o ∷ row R.ShortOutput (ltb (length out) (length (page_of o))) ∷ []

-- the conditions of its length: 22, then 19 where no output is long enough
abbrev pub length_table : Overlay → List (ConditionRow Refusal)
length_table o = unsound_row o ∷ row R.ShortOutput (ltb most_bytes (length (page_of o))) ∷ []

-- the refusal of an answer, if it is one
abbrev pub listed_refusal : Result ℕ Refusal → Option Refusal
listed_refusal (Ok n) = None
listed_refusal (Err r) = Some r
