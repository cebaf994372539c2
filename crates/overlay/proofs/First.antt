-- T4: set-up and the regression setting are refused by the first condition of their table that holds, and accepted where none holds.
use Rattle.std.specs.Prelude.{Some}
use Prim.Native.Nat.{ℕ}
use mathlib.Core.Path.{◌≡◌}
use mathlib.Core.Bool.{true, false}
use mathlib.Core.List.{List, ◌∷◌}
use Rattle.refusal.specs.declared.Refusal.{Refusal}
use Rattle.refusal.specs.declared.Refusal.TheVariants as R
use Rattle.overlay.specs.Overlay.{Overlay}
use Rattle.overlay_blocks.specs.declared.Sizes.{Sizes}
use Rattle.overlay.specs.Sound.{is_sound}
use Rattle.overlay.specs.Calls.{set_up, allow_on}
use Rattle.refusal.specs.First.{ConditionRow, first_of}
use Rattle.overlay.specs.First.{kept_by, set_up_table, unsound_row, allow_table}
use Rattle.overlay.proofs.Answers.{by_set_up, by_allow}

-- ---- set-up: 1

pub setup_first : (z : Sizes) (setting : ℕ) (o : Overlay) → (set_up z setting o).answer ≡ kept_by (first_of (set_up_table z o))
unfolding first_of
setup_first z setting o = by_set_up z setting o (λ s w. rw (w, s)) (λ s w. rw (w, s))

-- ---- the regression setting: 22

pub allow_first : (setting : ℕ) (o : Overlay) → (allow_on setting o).answer ≡ kept_by (first_of (allow_table o))
unfolding first_of
allow_first setting o = by_allow setting o (λ s w. rw (w, s)) (λ s w. rw (w, s))

-- ---- 22 before other rows

module _ (o : Overlay) (rs : List (ConditionRow Refusal)) where
  pub unsound_first : is_sound o ≡ false → first_of (unsound_row o ∷ rs) ≡ Some R.Unsound
  unfolding first_of
  unsound_first e = rw e

  pub sound_first : is_sound o ≡ true → first_of (unsound_row o ∷ rs) ≡ first_of rs
  unfolding first_of
  sound_first e = rw e
