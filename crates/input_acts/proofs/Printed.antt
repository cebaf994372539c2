-- What `roadlist` prints where nothing is refused: the listing of what the acts of its input's lines come to. So condition 3 holds of two printed pages.
use Rattle.std.specs.Prelude.{None, Some, Ok}
use Prim.Native.Nat.{ℕ, ◌<◌}
use mathlib.Core.Path.{◌≡◌, refl, sym, ◌∙◌, ap}
use mathlib.Core.Bool.{true, false}
use mathlib.Core.Logic.{◌↔◌}
use mathlib.Core.List.{List, [], ◌∷◌, map, flatten, foldl}
use native.Mathlib.Omega.{arith}
use lib.Dec.{leb}
use lib.ListN.{length, replicate, length-replicate}
use borrow.Author.Tests.{ltb-true}
use Rattle.base.specs.Bytes.{Bytes, both, either, all}
use Rattle.base.proofs.Split.{by_bool, both_right, clash, no}
use Rattle.base.proofs.Lists.{all_nil, all_cons, all_head, all_tail, all_append, all_left, all_right}
use Rattle.little.specs.Little.{is_byte}
use Rattle.model.specs.Act.{Act, Key}
use Rattle.overlay.specs.Overlay.{Overlay, with_sizes}
use Rattle.input_lines.specs.Lines.{lines_of, rest_of, last_line, input_lines}
use Rattle.input_lines.specs.Stream.{after_input}
use Rattle.input_lines.proofs.Lines.{lines_joined}
use Rattle.listing_page.specs.Summary.{known, summary}
use Rattle.listing_page.specs.Listing.{listing}
use Rattle.listing_page.proofs.Theorem.{same_page}
use Rattle.listing.specs.Call.{page_of}
use Rattle.listing.proofs.First.{page_acts}
use Rattle.reader.specs.State.{State, is_stopped, state_sound, reader_sound, fresh_reader}
use Rattle.reader.specs.Event.{event_on, end_on}
use Rattle.reader.proofs.Answers.{by_end, by_answer, answer_is}
use Rattle.acts.specs.Call.{acts_of, lines_read}
use Rattle.calls.specs.Ask.{Ask, reads, Storage, started, state_of, with_state, leaves, accepts, after, answered, ask_fits, PartsGiven, refusing, storage_after, replies, stopped_in}
use Rattle.calls.proofs.Reflects.{ids_reflect}
use Rattle.calls.proofs.Theorems.{reflects_after, page_known, stopped_after}
use Rattle.calls.proofs.Theorems as Theorems
use Rattle.condition.specs.Condition3.{Start}
use Rattle.condition.proofs.Condition3.{taken_start}
use Rattle.input_pieces.specs.Feed.{after_event}
use Rattle.program_ending.specs.Ending.{page_ending}
use Rattle.roadlist_page.specs.Roadlist.{program_sizes, program_lends, start_on, program_start, ending_at, roadlist_of}
use Rattle.roadlist_page.proofs.Starts.{zeros_bytes, lends_bytes, lends_taken}
use Rattle.input_acts.specs.Input.{line_taken, input_acts}
use Rattle.input_acts.proofs.Runs.{state_own}

-- ---- the program's start is that of a list of calls

abbrev lent_parts : ℕ → Bytes
lent_parts n = replicate 44432 0

abbrev lent_overlay : Overlay
lent_overlay = with_sizes program_sizes program_lends

parts_given : PartsGiven lent_parts
parts_given = record { bytes = λ n. zeros_bytes 44432; room = λ n. length-replicate {A = ℕ} 44432 0 }

program_starts : Start lent_overlay lent_parts
program_starts = (taken_start program_sizes 0 program_lends lent_parts lends_taken lends_bytes parts_given).0

start_state : program_start ≡ state_of 0 (started 0 lent_overlay lent_parts)
unfolding program_start start_on
start_state = λ i. record { overlay = (taken_start program_sizes 0 program_lends lent_parts lends_taken lends_bytes parts_given).1 i; reader = fresh_reader; parts = replicate 44432 0 }

-- and its lines are a list of calls
lines_state : (ls : List Bytes) (l : Storage) → foldl after_event (state_of 0 l) ls ≡ state_of 0 (after l (map (reads 0) ls))
unfolding after
lines_state [] l = refl
lines_state (x ∷ ls) l =
    let s = (event_on x (state_of 0 l)).state in
    ap (λ (z : State). foldl after_event z ls) (sym (state_own 0 l s)) ∙ lines_state ls (with_state 0 s l)

-- ---- what the calls of an input are

lines_bytes : (ls : List Bytes) → all is_byte (flatten ls) ≡ true → all (all is_byte) ls ≡ true
unfolding flatten
lines_bytes [] h = all_nil (all is_byte)
lines_bytes (x ∷ ls) h = all_cons (all is_byte) x ls (all_left is_byte x (flatten ls) h) (lines_bytes ls (all_right is_byte x (flatten ls) h))

last_bytes : (s : Bytes) → all is_byte s ≡ true → all (all is_byte) (last_line s) ≡ true
last_bytes [] h = all_nil (all is_byte)
last_bytes (b ∷ bs) h = all_cons (all is_byte) (b ∷ bs) [] h (all_nil (all is_byte))

input_bytes : (s : Bytes) → all is_byte s ≡ true → all (all is_byte) (input_lines s) ≡ true
unfolding input_lines
input_bytes s h =
    let e = ap (all is_byte) (lines_joined s) ∙ h in
    all_append (all is_byte) (lines_of s) (last_line (rest_of s)) (lines_bytes (lines_of s) (all_left is_byte _ _ e)) (last_bytes (rest_of s) (all_right is_byte (flatten (lines_of s)) _ e))

asks_fit : (ls : List Bytes) → all (all is_byte) ls ≡ true → all ask_fits (map (reads 0) ls) ≡ true
unfolding ask_fits
asks_fit [] h = all_nil ask_fits
asks_fit (x ∷ ls) h = all_cons ask_fits (reads 0 x) (map (reads 0) ls) (all_head (all is_byte) x ls h) (asks_fit ls (all_tail (all is_byte) x ls h))

asks_refuse : (ls : List Bytes) → all refusing (map (reads 0) ls) ≡ true
asks_refuse [] = all_nil refusing
asks_refuse (x ∷ ls) = all_cons refusing (reads 0 x) (map (reads 0) ls) refl (asks_refuse ls)

-- where no event of the reader was refused, each was accepted
all_taken : (ls : List Bytes) (l : Storage) → stopped_in 0 (answered l (map (reads 0) ls)) ≡ false → answered l (map (reads 0) ls) ≡ map line_taken ls
unfolding answered stopped_in both either
all_taken [] l h = refl
all_taken (x ∷ ls) l h =
    by_bool (accepts (reads 0 x) l)
    (λ e. rw (e, all_taken ls (leaves (reads 0 x) l) (rw e at h)))
    (λ e. let z : true ≡ false = rw e at h in clash refl z)

-- ---- what an accepted end says

end_accepted : (s : State) → (end_on s).answer ≡ Ok tt → (state_sound s ≡ true) × (is_stopped s.reader.stop ≡ false)
end_accepted s a =
    by_end s
    (λ u w. let z = answer_is w a in no (cc))
    (λ r n u g t w. let z = answer_is w a in no (cc))
    (λ u g w. (u, g))

-- nothing is refused: the end is accepted, and the page is printed
page_printed : (s : State) → (ending_at s).refusal ≡ None → ((end_on s).answer ≡ Ok tt) × ((ending_at s).text ≡ page_of s.overlay)
unfolding ending_at page_ending
page_printed s h =
    by_answer (end_on s).answer
    (λ a. (a, rw a (by_bool (leb (length (page_of s.overlay)) 65536) (λ t. rw t) (λ t. let z : Some _ ≡ None = rw (a, t) at h in no (cc)))))
    (λ r n a. let z : Some r ≡ None = rw a at h in no (cc))

-- ---- the program

module _ (input : Bytes) (given : all is_byte input ≡ true) (taken : (ending_at (after_input after_event program_start input)).refusal ≡ None) where
  abbrev lines : List Ask
  lines = map (reads 0) (input_lines input)

  abbrev left : Storage
  left = storage_after 0 lent_overlay lent_parts lines

  fits : all ask_fits lines ≡ true
  fits = asks_fit (input_lines input) (input_bytes input given)

  final_state : after_input after_event program_start input ≡ state_of 0 left
  final_state = ap (λ (s : State). foldl after_event s (input_lines input)) start_state ∙ lines_state (input_lines input) (started 0 lent_overlay lent_parts)

  printed : ((end_on (state_of 0 left)).answer ≡ Ok tt) × ((ending_at (state_of 0 left)).text ≡ page_of left.overlay)
  printed = page_printed (state_of 0 left) (rw final_state at taken)

  lines_below : length (lines_read 0 (replies 0 lent_overlay lent_parts lines)) < 18446744073709551615
  unfolding state_sound reader_sound
  lines_below =
      let w = end_accepted (state_of 0 left) printed.0 in
      let n = ltb-true (left.readers 0).lines 18446744073709551615 (both_right _ _ (both_right _ _ w.0)) in
      omega (arith, n, Theorems.lines_after 0 lent_overlay program_starts.sizes program_starts.bytes lent_parts program_starts.parts lines fits 0)

  none_refused : stopped_in 0 (replies 0 lent_overlay lent_parts lines) ≡ false
  none_refused =
      let w = end_accepted (state_of 0 left) printed.0 in
      sym (stopped_after 0 lent_overlay program_starts.sizes program_starts.bytes lent_parts program_starts.parts lines fits 0 lines_below) ∙ w.1

  acts_taken : acts_of (replies 0 lent_overlay lent_parts lines) ≡ input_acts input
  unfolding input_acts
  acts_taken = ap acts_of (all_taken (input_lines input) (started 0 lent_overlay lent_parts) none_refused)

  pub roadlist_acts : roadlist_of input ≡ listing (summary (input_acts input))
  unfolding roadlist_of
  roadlist_acts =
      let s = program_starts in
      let w = reflects_after 0 lent_overlay s.sizes s.bytes lent_parts s.parts lines fits in
      let p = page_acts left.overlay w.sound w.ranks (acts_of (replies 0 lent_overlay lent_parts lines))
      (page_known lent_overlay s.sizes s.bytes lent_parts s.parts lines fits (asks_refuse (input_lines input))) (ids_reflect _ _ _ _ w) in
      ap (λ (z : State). (ending_at z).text) final_state ∙ (printed.1 ∙ (p ∙ ap (λ (a : List (Act Bytes)). listing (summary a)) acts_taken))

-- Condition 3 of two printed pages: they are equal exactly where for every kind and id the acts of both inputs' lines come to the same
pub printed_same : (input other : Bytes) → all is_byte input ≡ true → all is_byte other ≡ true → (ending_at (after_input after_event program_start input)).refusal ≡ None
    → (ending_at (after_input after_event program_start other)).refusal ≡ None → (roadlist_of input ≡ roadlist_of other) ↔ ((k : Key) → known (input_acts input) k ≡ known (input_acts other) k)
printed_same input other g h t u = rw (roadlist_acts input g t, roadlist_acts other h u) (same_page (input_acts input) (input_acts other))
