-- The tables of the readings: "each call but lookups in lists, first: 22"; then "21 number not below its list's count" (proofs/First).
use Rattle.std.specs.Prelude.{ℕ, not, List, [], ◌∷◌, ltb, Err, None, Ok, Option, Result, Some}
use Rattle.refusal.specs.First.{ConditionRow, row}
use Rattle.refusal.specs.declared.Refusal.{Refusal}
use Rattle.refusal.specs.declared.Refusal.TheVariants as R
use Rattle.kind_reading.specs.Listed.{View}
use Rattle.overlay.specs.Overlay.{Overlay}
use Rattle.overlay.specs.First.{unsound_row}

-- the refusal of what is read, if it is one
abbrev pub read_refusal : Result ℕ Refusal → Option Refusal
read_refusal (Ok n) = None
read_refusal (Err r) = Some r

abbrev pub view_refusal : View → Option Refusal
view_refusal (Ok o) = None
view_refusal (Err r) = Some r

-- 21, of a number on a list of so many
abbrev pub number_rows : ℕ → ℕ → List (ConditionRow Refusal)
number_rows n count = row R.NoSuchNumber (not (ltb n count)) ∷ []

-- counts, `is_empty`, `get`, `has`, `is_deleted` and the known version: 22
abbrev pub read_table : Overlay → List (ConditionRow Refusal)
read_table o = unsound_row o ∷ []

-- an id, a record or a text by its number: 22, 21
abbrev pub number_table : ℕ → ℕ → Overlay → List (ConditionRow Refusal)
number_table n count o = unsound_row o ∷ number_rows n count
