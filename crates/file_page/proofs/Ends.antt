-- The start, and what is printed: each step of the code by its definition.
use Rattle.reader.specs.declared.RefusedAt.{RefusedAt}
use Rattle.std.specs.Prelude.{Ok, Result}
use Prim.Native.Nat.{ℕ}
use mathlib.Core.Path.{◌≡◌, refl, sym, ◌∙◌, ap}
use mathlib.Core.Bool.{true}
use mathlib.Core.List.{List}
use lib.ListN.{length}
use Rattle.base.specs.Bytes.{Bytes, both}
use Rattle.base.proofs.Split.{by_bool, both_left, clash, no}
use Rattle.refusal.specs.declared.Refusal.{Refusal}
use Rattle.overlay_blocks.specs.declared.Sizes.{Sizes}
use Rattle.overlay_blocks.specs.Blocks.{sizes_in}
use Rattle.overlay_blocks.specs.Sizes.{largest, kind_fits, strings_fit, sizes_in_range, filled, fitted}
use Rattle.overlay.specs.Overlay.{Overlay, with_sizes, sizes_fit, empty}
use Rattle.overlay.specs.Lent.{overlay_for, overlay_in}
use Rattle.overlay.specs.Calls.{OverlayAfter, set_up}
use Rattle.overlay.proofs.Tiles.{fits_in}
use Rattle.overlay.proofs.Answers.{by_set_up}
use Rattle.reader.specs.State.{state_sound, fresh_reader}
use Rattle.reader.specs.declared.EventReader.{EventReader}
use Rattle.file_lexer.specs.declared.Before.TheVariants as B
use Rattle.file_lexer.specs.Lexing.{between}
use Rattle.file_reader.specs.File.{FileState, FileResult}
use Rattle.file_reader.specs.Calls.{file_sound, file_end_on}
use Rattle.program_ending.specs.Ending.{ending_by}
use Rattle.file_page.specs.Roadfile.{program_sizes, start_on, file_ending}

-- ---- the start

-- the sizes fit the blocks
pub program_fits : (words bytes counters : List ℕ) → length words ≡ 45056 → length bytes ≡ 3211264
    → sizes_fit largest (with_sizes program_sizes (overlay_for program_sizes words bytes counters)) ≡ true
unfolding fitted filled sizes_in_range kind_fits strings_fit both
program_fits words bytes counters w b =
    let e : fitted largest program_sizes (length words) (length bytes) ≡ true = rw (w, b) refl in
    sym (fits_in program_sizes words bytes counters) ∙ e

-- so set-up stores them, and what it leaves is the overlay that its counters name
pub started_by : (words bytes counters parts file : List ℕ) → length words ≡ 45056 → length bytes ≡ 3211264 → (z : Sizes) → z ≡ program_sizes
    → (v c : List ℕ) (k : Result Unit Refusal) → ◌≡◌ {A = OverlayAfter} (record { overlay = overlay_for z v bytes c; answer = k }) (set_up z 0 (overlay_for z words bytes counters))
    → (r : EventReader) → r ≡ fresh_reader
    → ◌≡◌ {A = FileState}
    (record { state = record { overlay = overlay_in v bytes c; reader = r; parts = parts }; place = between B.Nothing; feeds = 0; bytes = file; used = 0; named = 0 })
    (start_on (overlay_for program_sizes words bytes counters) parts file)
unfolding start_on
started_by words bytes counters parts file w b z p v c k e r f =
    let o = overlay_for program_sizes words bytes counters in
    let g : ◌≡◌ {A = OverlayAfter} (record { overlay = overlay_for program_sizes v bytes c; answer = k }) (set_up program_sizes 0 o) = rw p at e in
    let t = program_fits words bytes counters w b in
    let made : (set_up program_sizes 0 o).overlay ≡ empty 0 (with_sizes program_sizes o) =
    by_set_up program_sizes 0 o (λ n x. clash t n) (λ n x. ap (λ (y : OverlayAfter). y.overlay) x) in
    let left : overlay_for program_sizes v bytes c ≡ (set_up program_sizes 0 o).overlay = ap (λ (y : OverlayAfter). y.overlay) g in
    let stored : sizes_in c ≡ program_sizes = ap (λ (y : Overlay). y.sizes) (left ∙ made) in
    let is : overlay_in v bytes c ≡ (set_up program_sizes 0 o).overlay = ap (λ (y : Sizes). overlay_for y v bytes c) stored ∙ left in
    λ i. record { state = record { overlay = is i; reader = f i; parts = parts }; place = between B.Nothing; feeds = 0; bytes = file; used = 0; named = 0 }

-- ---- the end

module _ (f : FileState) where
  -- it is accepted in a sound state alone
  end_sound : (file_end_on f).answer ≡ Ok tt → file_sound f ≡ true
  unfolding file_end_on
  end_sound a = by_bool (file_sound f) (λ e. e) (λ e. let z = rw e at a in no (cc))

  module _ (g : FileState) (r : Result Unit RefusedAt) (e : ◌≡◌ {A = FileResult} (record { file = g; answer = r }) (file_end_on f)) where
    pub ended_sound : r ≡ Ok tt → state_sound f.state ≡ true
    unfolding file_sound
    ended_sound a = both_left _ _ (end_sound (sym (ap (λ (z : FileResult). z.answer) e) ∙ a))

    pub ends_so : (out : Bytes) → length out ≡ 2097152 → ending_by (length out) r f.state ≡ file_ending f
    unfolding file_ending
    ends_so out n = λ i. ending_by (n i) (e i).answer f.state
