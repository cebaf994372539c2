-- Document 01: set-up and `allow_version_regression`: what each leaves, and what it answers. "Nothing lent changes" at a refusal.
use Rattle.std.specs.Prelude.{ℕ, cond, Err, Ok, Result}
use Rattle.refusal.specs.declared.Refusal.{Refusal}
use Rattle.refusal.specs.declared.Refusal.TheVariants as R
use Rattle.overlay_blocks.specs.Sizes.{largest}
use Rattle.overlay.specs.Overlay.{Overlay, with_setting, with_sizes, sizes_fit, empty}
use Rattle.overlay_blocks.specs.declared.Sizes.{Sizes}
use Rattle.overlay.specs.Sound.{is_sound}

-- an overlay and the answer that a call gives
pub record OverlayAfter : Type 0 where
  pub overlay : Overlay
  pub answer : Result Unit Refusal

abbrev pub overlay_refused : Overlay → Refusal → OverlayAfter
overlay_refused o r = record { overlay = o; answer = Err r }

-- ---- set-up: 1, or an empty overlay with its sizes and its regression setting

unfoldable pub set_up : Sizes → ℕ → Overlay → OverlayAfter
set_up z setting o = cond (sizes_fit largest (with_sizes z o)) (record { overlay = empty setting (with_sizes z o); answer = (Ok tt) }) (overlay_refused o R.Size)

-- ---- "each call but lookups in lists, first: 22 unsound storage"

-- what that test answers: 22, or nothing
abbrev pub sound_answer : Overlay → Result Unit Refusal
sound_answer o = cond (is_sound o) (Ok tt) (Err R.Unsound)

abbrev pub if_sound : Overlay → OverlayAfter → OverlayAfter
if_sound o a = cond (is_sound o) a (overlay_refused o R.Unsound)

-- `allow_version_regression`: 22, or the setting is stored
unfoldable pub allow_on : ℕ → Overlay → OverlayAfter
allow_on setting o = if_sound o (record { overlay = with_setting setting o; answer = (Ok tt) })
