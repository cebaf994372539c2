-- What the program lends is set up and sound, and stays so while events come: 22 cannot occur below 2^64 - 1 lines.
use Rattle.std.specs.Prelude.{Err}
use Prim.Native.Nat.{ℕ, zero, suc, ◌+◌, ◌-◌, ◌<◌, ◌≤◌}
use mathlib.Core.Path.{◌≡◌, refl, ◌∙◌, ap}
use mathlib.Core.Bool.{true}
use mathlib.Core.List.{List, [], ◌∷◌, foldl}
use native.Mathlib.Omega.{arith}
use lib.ListN.{length, drop, replicate, length-replicate}
use Rattle.base.specs.Bytes.{Bytes, both, all}
use Rattle.base.proofs.Split.{clash, no}
use Rattle.refusal.specs.declared.Refusal.TheVariants as R
use Rattle.kind.specs.declared.Kind.{Kind}
use Rattle.little.specs.Little.{is_byte}
use Rattle.little.proofs.Littles.{bytes_take, bytes_drop}
use Rattle.kind_store.specs.KindStore.{taken_in}
use Rattle.overlay_blocks.specs.declared.KindPart.{KindPart}
use Rattle.overlay_blocks.specs.Blocks.{part_in, text_part_in}
use Rattle.overlay_blocks.specs.Sizes.{largest}
use Rattle.overlay.specs.Overlay.{kind_store_of, with_sizes, sizes_fit}
use Rattle.overlay.specs.Calls.{OverlayAfter, set_up}
use Rattle.overlay.specs.Given.{InBytes}
use Rattle.overlay.proofs.Decides.{decides}
use Rattle.overlay.proofs.Answers.{by_set_up}
use Rattle.overlay.proofs.Puts.{kind_store_for}
use Rattle.overlay.proofs.Keeps.{setup_sound, setup_bytes}
use Rattle.input_lines.specs.Lines.{input_lines}
use Rattle.input_lines.specs.Stream.{after_input}
use Rattle.reader.specs.State.{State, state_sound, refusal_at}
use Rattle.reader.specs.Event.{event_on, end_on}
use Rattle.reader.proofs.Acts.{Fine}
use Rattle.reader.proofs.Answers.{by_answer, by_end, by_level, answer_is, event_counts, same_refusal}
use Rattle.reader.proofs.Events.{by_refused, unsound_stops_not}
use Rattle.reader.proofs.Keeps.{ReadyIn, event_fine, event_ready, ready_sound, fresh_ready}
use Rattle.reader.specs.State.{stops_by}
use Rattle.reader_events.specs.Runs.{RunGiven}
use Rattle.reader_events.proofs.Runs.{given_of}
use Rattle.input_pieces.specs.Feed.{after_event}
use Rattle.roadlist_page.specs.Roadlist.{program_sizes, program_lends, start_on, program_start}
use Rattle.roadlist_page.proofs.Ends.{program_fits}

-- ---- the start

pub zeros_bytes : (n : ℕ) → all is_byte (replicate n 0) ≡ true
unfolding all is_byte both
zeros_bytes zero = refl
zeros_bytes (suc n) = zeros_bytes n

-- what is lent
abbrev words : List ℕ
words = replicate 5632 0

abbrev bytes : Bytes
bytes = replicate 32768 0

abbrev counters : List ℕ
counters = replicate 17 0

pub lends_bytes : InBytes program_lends
unfolding program_lends
lends_bytes = record { arenas = each; texts = bytes_drop (text_part_in program_sizes (length words) (length bytes)).bytes bytes (zeros_bytes 32768) }
  where
    part : Kind → KindPart
    part k = part_in k program_sizes (length words) (length bytes)

    each : (k : Kind) → all is_byte (kind_store_of k program_lends).arena ≡ true
    each k =
        rw (kind_store_for k program_sizes words bytes counters)
        (bytes_take ((part k).end - (part k).first) (drop (part k).first bytes) (bytes_drop (part k).first bytes (zeros_bytes 32768)))

lends_fit : sizes_fit largest (with_sizes program_sizes program_lends) ≡ true
unfolding program_lends
lends_fit = program_fits words bytes counters (length-replicate {A = ℕ} 5632 0) (length-replicate {A = ℕ} 32768 0)

pub lends_taken : taken_in (set_up program_sizes 0 program_lends).answer ≡ true
lends_taken = by_set_up program_sizes 0 program_lends (λ s w. clash lends_fit s) (λ s w. ap (λ (z : OverlayAfter). taken_in z.answer) w)

pub start_fine : Fine program_start.overlay
unfolding program_start start_on
start_fine =
    let b = setup_bytes program_sizes 0 program_lends lends_bytes in
    record { sound = (decides (set_up program_sizes 0 program_lends).overlay b).1 (setup_sound program_sizes 0 program_lends lends_taken); bytes = b }

pub start_ready : ReadyIn program_start
unfolding program_start start_on
start_ready = fresh_ready (set_up program_sizes 0 program_lends).overlay start_fine.sound (replicate 44432 0) (zeros_bytes 44432) (length-replicate {A = ℕ} 44432 0)

-- so the first piece finds what `input_pieces::feed` needs, and it tests nothing
pub start_given : RunGiven program_start
start_given = given_of program_start start_fine start_ready

start_lines : program_start.reader.lines ≤ 0
unfolding program_start start_on
start_lines = omega arith

-- ---- events

-- the count of lines rises by at most one at a line
lines_rise : (l : Bytes) (s : State) → (event_on l s).state.reader.lines ≤ s.reader.lines + 1
lines_rise l s =
    by_answer (event_on l s).answer
    (λ a. omega (arith, (event_counts l s a).0))
    (λ r n a. by_refused l s r n a (λ u k j w. rw w (omega arith)) (λ u t w. rw w (omega arith)))

-- what is so of the state after lines
pub record Within (n : ℕ) (s : State) : Type 0 where
  pub fine : Fine s.overlay
  pub ready : ReadyIn s
  pub lines : s.reader.lines ≤ n

pub lines_within : (ls : List Bytes) (n : ℕ) (s : State) → Within n s → Within (n + length ls) (foldl after_event s ls)
lines_within [] n s w = record { fine = w.fine; ready = w.ready; lines = omega (arith, w.lines) }
lines_within (l ∷ ls) n s w =
    let v = lines_within ls (n + 1) (after_event s l) (record {
      fine = event_fine l s w.fine w.ready;
      ready = event_ready l s w.fine w.ready;
      lines = omega (arith, lines_rise l s, w.lines);
    }) in
    record { fine = v.fine; ready = v.ready; lines = omega (arith, v.lines) }

module _ (input : Bytes) (short : length (input_lines input) < 18446744073709551615) where
  abbrev final : State
  final = after_input after_event program_start input

  pub final_sound : state_sound final ≡ true
  final_sound =
      let w = lines_within (input_lines input) 0 program_start (record { fine = start_fine; ready = start_ready; lines = start_lines }) in
      ready_sound final w.fine w.ready (omega (arith, w.lines))

  -- 22 is not the answer of the end, so it is not printed
  pub no_22 : (n : ℕ) → (end_on final).answer ≡ Err (refusal_at R.Unsound n) → ⊥
  no_22 n a =
      by_end final
      (λ u w. clash final_sound u)
      (λ r m u g t w. let k : r ≡ R.Unsound = (same_refusal (answer_is w a)).0 in clash t (ap stops_by k ∙ unsound_stops_not))
      (λ u g w. by_level final final.reader.place.level (λ d x. let z = answer_is (w ∙ x) a in no (cc)) (λ d x. let k : R.Unfinished ≡ R.Unsound = (same_refusal (answer_is (w ∙ x) a)).0 in no (cc)))
