-- The conditions of the call in their order: 22, 17, 19, then those of `intern` for each text, on what the texts before it left (proofs/First).
use Rattle.std.specs.Prelude.{ℕ, not, List, [], ◌∷◌, ◌++◌, ltb, length}
use Rattle.base.specs.Bytes.{Bytes}
use Rattle.refusal.specs.First.{ConditionRow, row}
use Rattle.refusal.specs.declared.Refusal.{Refusal}
use Rattle.refusal.specs.declared.Refusal.TheVariants as R
use Rattle.overlay.specs.Overlay.{Overlay}
use Rattle.overlay.specs.First.{unsound_row}
use Rattle.overlay_direct.specs.Calls.{intern_on}
use Rattle.overlay_direct.specs.First.{intern_table}
use Rattle.overlay_texts.specs.Texts.{cut_texts, lengths_fit}

-- of each text 22, 3, 13; its 22 holds nowhere, since a text leaves a sound overlay sound
unfoldable pub texts_table : List Bytes → Overlay → List (ConditionRow Refusal)
texts_table [] o = []
texts_table (t ∷ ts) o = intern_table t o ++ texts_table ts (intern_on t o).overlay

abbrev pub given_rows : List ℕ → Bytes → ℕ → List (ConditionRow Refusal)
given_rows lengths bytes room =
    row R.BadRecord (not (lengths_fit lengths bytes)) ∷ row R.ShortOutput (ltb room (length lengths)) ∷ []

abbrev pub intern_texts_table : List ℕ → Bytes → ℕ → Overlay → List (ConditionRow Refusal)
intern_texts_table lengths bytes room o = unsound_row o ∷ given_rows lengths bytes room ++ texts_table (cut_texts lengths bytes) o
