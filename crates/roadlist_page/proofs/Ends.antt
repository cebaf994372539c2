-- The start, a last line, and what is printed: each step of the code by its definition.
use Rattle.reader.specs.declared.RefusedAt.{RefusedAt}
use Rattle.std.specs.Prelude.{Ok, Result}
use Prim.Native.Nat.{ℕ, ◌<◌, ◌≤◌}
use mathlib.Core.Path.{◌≡◌, refl, sym, ◌∙◌, ap}
use mathlib.Core.Bool.{true, false}
use mathlib.Core.List.{List, [], ◌∷◌}
use native.Mathlib.Omega.{arith}
use lib.ListN.{length}
use lib.Seq.{length-take-le, take-length}
use Rattle.base.specs.Bytes.{Bytes, both}
use Rattle.base.proofs.Split.{clash, no}
use Rattle.refusal.specs.declared.Refusal.{Refusal}
use Rattle.refusal.specs.declared.Refusal.TheVariants as R
use Rattle.overlay_blocks.specs.declared.Sizes.{Sizes}
use Rattle.overlay_blocks.specs.Blocks.{sizes_in}
use Rattle.overlay_blocks.specs.Sizes.{largest, kind_fits, strings_fit, sizes_in_range, filled, fitted}
use Rattle.overlay.specs.Overlay.{Overlay, with_sizes, sizes_fit, empty}
use Rattle.overlay.specs.Lent.{overlay_for, overlay_in}
use Rattle.overlay.specs.Calls.{OverlayAfter, set_up}
use Rattle.overlay.proofs.Tiles.{fits_in}
use Rattle.overlay.proofs.Answers.{by_set_up}
use Rattle.input_lines.specs.Lines.{last_line}
use Rattle.reader.specs.State.{State, fresh_reader, state_sound}
use Rattle.reader.specs.declared.EventReader.{EventReader}
use Rattle.reader.specs.Event.{EventResult, event_on, end_on}
use Rattle.reader.proofs.Answers.{by_end, end_22, answer_is}
use Rattle.program_ending.specs.Ending.{EndOutput, end_output, refused_ending, ending_by}
use Rattle.roadlist_page.specs.Roadlist.{program_sizes, start_on, ending_at}
use Rattle.input_pieces.specs.Feed.{Intake, kept_line, state_at_end}
use Rattle.roadlist_page.specs.Finish.{Finished, finish_on}

-- ---- the start

-- the sizes fit the blocks
pub program_fits : (words bytes counters : List ℕ) → length words ≡ 5632 → length bytes ≡ 32768
    → sizes_fit largest (with_sizes program_sizes (overlay_for program_sizes words bytes counters)) ≡ true
unfolding fitted filled sizes_in_range kind_fits strings_fit both
program_fits words bytes counters w b =
    let e : fitted largest program_sizes (length words) (length bytes) ≡ true = rw (w, b) refl in
    sym (fits_in program_sizes words bytes counters) ∙ e

-- so set-up stores them, and what it leaves is the overlay that its counters name
pub started_by : (words bytes counters parts : List ℕ) → length words ≡ 5632 → length bytes ≡ 32768 → (z : Sizes) → z ≡ program_sizes
    → (v c : List ℕ) (k : Result Unit Refusal) → ◌≡◌ {A = OverlayAfter} (record { overlay = overlay_for z v bytes c; answer = k }) (set_up z 0 (overlay_for z words bytes counters))
    → (r : EventReader) → r ≡ fresh_reader
    → ◌≡◌ {A = State} (record { overlay = overlay_in v bytes c; reader = r; parts = parts }) (start_on (overlay_for program_sizes words bytes counters) parts)
unfolding start_on
started_by words bytes counters parts w b z p v c k e r f =
    let o = overlay_for program_sizes words bytes counters in
    let g : ◌≡◌ {A = OverlayAfter} (record { overlay = overlay_for program_sizes v bytes c; answer = k }) (set_up program_sizes 0 o) = rw p at e in
    let t = program_fits words bytes counters w b in
    let made : (set_up program_sizes 0 o).overlay ≡ empty 0 (with_sizes program_sizes o) =
    by_set_up program_sizes 0 o (λ n x. clash t n) (λ n x. ap (λ (y : OverlayAfter). y.overlay) x) in
    let left : overlay_for program_sizes v bytes c ≡ (set_up program_sizes 0 o).overlay = ap (λ (y : OverlayAfter). y.overlay) g in
    let stored : sizes_in c ≡ program_sizes = ap (λ (y : Overlay). y.sizes) (left ∙ made) in
    let is : overlay_in v bytes c ≡ (set_up program_sizes 0 o).overlay = ap (λ (y : Sizes). overlay_for y v bytes c) stored ∙ left in
    λ i. record { overlay = is i; reader = f i; parts = parts }

-- ---- a last line

last_some : (l : Bytes) → 0 < length l → last_line l ≡ l ∷ []
last_some [] h = absurd (omega arith)
last_some (b ∷ l) h = refl

module _ (f : Intake) where
  pub last_none : f.held ≡ 0 → f.state ≡ state_at_end f
  unfolding state_at_end
  last_none e = rw e

  pub last_event : (f.held ≡ 0 → ⊥) → f.held ≤ length f.buffer → (x : EventResult) → x ≡ event_on (kept_line f) f.state → x.state ≡ state_at_end f
  unfolding state_at_end
  last_event n h x e = rw (last_some (kept_line f) (omega (arith, n, length-take-le f.held f.buffer h))) (ap (λ (z : EventResult). z.state) e)

-- bytes lent whole are what is held of them
pub last_lent : (f : Intake) → state_at_end (record { state = f.state; buffer = kept_line f; held = length (kept_line f) }) ≡ state_at_end f
unfolding state_at_end
last_lent f = rw (take-length (kept_line f)) refl

-- ---- what is printed

-- an end is accepted in a sound state alone
module _ (s : State) (r : Result Unit RefusedAt) (e : ◌≡◌ {A = EventResult} (record { state = s; answer = r }) (end_on s)) where
  pub end_sound : r ≡ Ok tt → state_sound s ≡ true
  end_sound a =
      by_end s
      (λ u w. let z = sym a ∙ answer_is (sym e) (ap (λ (z : EventResult). z.answer) w) in no (cc))
      (λ x n u g t w. u)
      (λ u g w. u)

  pub ends_so : (out : Bytes) → length out ≡ 65536 → ending_by (length out) r s ≡ ending_at s
  unfolding ending_at
  ends_so out n = λ i. ending_by (n i) (e i).answer s

-- in unsound storage, as where the line count is at its largest, 22 is told, which names no line
pub ends_22 : (s : State) → state_sound s ≡ false → ending_at s ≡ refused_ending R.Unsound 0
unfolding ending_at
ends_22 s e = rw (end_22 s e)

pub finished_by : (f : Intake) (s : State) (out : Bytes) (x : EndOutput) → s ≡ state_at_end f → x ≡ end_output out (ending_at s)
    → ◌≡◌ {A = Finished} (record { overlay = s.overlay; parts = s.parts; output = x }) (finish_on out f)
unfolding finish_on
finished_by f s out x e k =
    let y : x ≡ end_output out (ending_at (state_at_end f)) = k ∙ ap (λ (z : State). end_output out (ending_at z)) e in
    λ i. record { overlay = (e i).overlay; parts = (e i).parts; output = y i }
