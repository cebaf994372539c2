-- "A call .. is refused when, and only when, .. a condition of the table holds at its place": the conditions in order, 22, then 19 (proofs/First).
use Rattle.std.specs.Prelude.{ℕ, min, List, [], ◌∷◌, ltb, length}
use Rattle.kind.specs.declared.Kind.{Kind}
use Rattle.refusal.specs.First.{ConditionRow, row}
use Rattle.refusal.specs.declared.Refusal.{Refusal}
use Rattle.refusal.specs.declared.Refusal.TheVariants as R
use Rattle.kind_reading.specs.declared.Side.{Side}
use Rattle.overlay.specs.Overlay.{Overlay, kind_store_of}
use Rattle.overlay.specs.First.{unsound_row}
use Rattle.overlay_reading.specs.Reading.{count_in}

abbrev pub short_rows : Kind → Side → List ℕ → List ℕ → Overlay → List (ConditionRow Refusal)
short_rows k side ids versions o = row R.ShortOutput (ltb (min (length ids) (length versions)) (count_in side (kind_store_of k o))) ∷ []

abbrev pub all_ids_table : Kind → Side → List ℕ → List ℕ → Overlay → List (ConditionRow Refusal)
all_ids_table k side ids versions o = unsound_row o ∷ short_rows k side ids versions o
