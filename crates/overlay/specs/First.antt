-- The tables of set-up and of the regression setting, and the row that each later call begins with (proofs/First).
use Rattle.std.specs.Prelude.{ℕ, true, not, List, [], ◌∷◌, pos, Err, None, Ok, Option, Result, Some}
use Rattle.kind.specs.Kind.{of_number}
use Rattle.kind.specs.declared.Kind.{Kind}
use Rattle.refusal.specs.First.{ConditionRow, row}
use Rattle.refusal.specs.Refusal.{number_of, reply_of}
use Rattle.refusal.specs.declared.Reply.{Reply}
use Rattle.refusal.specs.declared.Refusal.{Refusal}
use Rattle.refusal.specs.declared.Refusal.TheVariants as R
use Rattle.overlay_blocks.specs.Sizes.{largest}
use Rattle.overlay.specs.Overlay.{Overlay, with_sizes, sizes_fit}
use Rattle.overlay_blocks.specs.declared.Sizes.{Sizes}
use Rattle.overlay.specs.Sound.{is_sound}

-- an answer by its refusal, if there is one
abbrev pub kept_by : Option Refusal → Result Unit Refusal
kept_by None = Ok tt
kept_by (Some r) = Err r

-- set-up: 1
abbrev pub set_up_table : Sizes → Overlay → List (ConditionRow Refusal)
set_up_table z o = row R.Size (not (sizes_fit largest (with_sizes z o))) ∷ []

-- "each call but lookups in lists, first: 22 unsound storage"
abbrev pub unsound_row : Overlay → ConditionRow Refusal
unsound_row o = row R.Unsound (not (is_sound o))

-- `allow_version_regression`: 22
abbrev pub allow_table : Overlay → List (ConditionRow Refusal)
allow_table o = unsound_row o ∷ []

-- ---- at the C boundary

-- a kind goes by its number: 17 for one that means no kind, else the rows of that kind
abbrev pub kind_rows : Option Kind → (Kind → List (ConditionRow Refusal)) → List (ConditionRow Refusal)
kind_rows (Some k) rows = rows k
kind_rows None rows = row R.BadRecord true ∷ []

abbrev pub kind_call_table : ℕ → (Kind → List (ConditionRow Refusal)) → Overlay → List (ConditionRow Refusal)
kind_call_table kind rows o = unsound_row o ∷ kind_rows (of_number kind) rows

-- the number of a reply by its refusal, if there is one, and the whole reply
abbrev pub number_by : Option Refusal → ℕ
number_by None = 0
number_by (Some r) = number_of r

abbrev pub reply_by : Option Refusal → Reply
reply_by None = record { number = 0; held = pos 0 }
reply_by (Some r) = reply_of r
