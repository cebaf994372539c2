-- What a run answers. Whatever it holds 22 is first, then the stop mark; else its lines are events in turn, up to the first that is refused, and what is left of it is one where it is too
-- long for a line. So a run that is refused has taken in the lines before.
use Rattle.reader.specs.declared.RefusedAt.{RefusedAt}
use Rattle.std.specs.Prelude.{None, Option, Some, Ok, Err}
use Prim.Native.Nat.{ℕ, ◌+◌, ◌<◌, ◌≤◌}
use mathlib.Core.Path.{◌≡◌, refl, sym, ◌∙◌, ap}
use mathlib.Core.Bool.{true, false}
use mathlib.Core.List.{List, [], ◌∷◌, ◌++◌, append-nil, flatten}
use native.Mathlib.Omega.{arith}
use borrow.Author.Tests.{lt-leb}
use lib.ListN.{length}
use Rattle.base.specs.Bytes.{Bytes}
use Rattle.base.proofs.Split.{by_le, no}
use Rattle.refusal.specs.declared.Refusal.{Refusal}
use Rattle.refusal.specs.declared.Refusal.TheVariants as R
use Rattle.line.proofs.Lines.{lacks, lacks_nil}
use Rattle.input_lines.specs.Lines.{lines_of, rest_of}
use Rattle.input_lines.proofs.Lines.{WholeLines, lines_only, lines_open, rest_open, rest_lacks}
use Rattle.input_lines.proofs.Long.{long_alone}
use Rattle.event_decision.specs.Decision.{Decision}
use Rattle.reader.specs.State.{State, stops_by, is_stopped, reader_sound, state_sound, refusal_at}
use Rattle.reader.specs.Step.{stops, step_of}
use Rattle.reader.specs.Event.{EventResult, refused_at, stepped, unless_stopped, event_on}
use Rattle.reader.proofs.Answers.{by_answer, by_event, step_at, event_going, event_counts}
use Rattle.reader.proofs.Events.{by_refused}
use Rattle.reader_events.specs.Events.{events_on, taken_bytes, run_lines, run_on}
use Rattle.reader_events.proofs.Onward.{events_none, taken_none, events_on_lem, taken_on, events_off, taken_off, events_one, lines_short, lines_long, run_more, RefusedLine, refused_line}

-- ---- the test

module _ (run : Bytes) (s : State) where
  -- 22 first, whatever the run holds: nothing changes
  pub run_22 : state_sound s ≡ false → run_on run s ≡ refused_at s R.Unsound 0
  unfolding run_on
  run_22 e = rw e

  -- a stopped reader repeats number, line and HELD, and changes nothing
  pub run_stopped : (r : Refusal) (n : ℕ) → state_sound s ≡ true → s.reader.stop ≡ Some (refusal_at r n) → stops_by r ≡ true → run_on run s ≡ refused_at s r n
  unfolding run_on
  run_stopped r n e g t = rw (e, g, t)

  -- else the run is its lines
  pub run_going : state_sound s ≡ true → is_stopped s.reader.stop ≡ false → run_on run s ≡ events_on (run_lines run) s
  unfolding run_on
  run_going e g = rw e (goes_on s.reader.stop g)
    where
      goes_on : (m : Option RefusedAt) → is_stopped m ≡ false → unless_stopped m s (events_on (run_lines run) s) ≡ events_on (run_lines run) s
      goes_on None k = refl
      goes_on (Some a) k = rw k

-- after an event that was refused, other than 22, every run repeats that
pub run_repeats : (line : Bytes) (s : State) (r : Refusal) (n : ℕ) → (event_on line s).answer ≡ Err (refusal_at r n) → (r ≡ R.Unsound → ⊥) → (run : Bytes)
    → run_on run (event_on line s).state ≡ refused_at (event_on line s).state r n
unfolding state_sound reader_sound
run_repeats line s r n a other run =
    by_refused line s r n a
    (λ u k j w. absurd (other k))
    (λ u t w. run_stopped run (event_on line s).state r n (rw w u) (ap (λ (z : State). z.reader.stop) w) t)

-- ---- the lines

-- an event that changes nothing ends the lines
module _ (l : Bytes) (ls : List Bytes) (s : State) where
  same_off : (r : Refusal) (n : ℕ) → event_on l s ≡ refused_at s r n → events_on (l ∷ ls) s ≡ refused_at s r n
  same_off r n w =
      events_off l ls s r n (ap (λ (z : EventResult). z.answer) w) ∙ ap (λ (z : EventResult). record { state = z.state; answer = Err (refusal_at r n) }) w

-- a run that gives a line is the events of its lines, one call each, up to the first that is refused
pub run_is_events : (run : Bytes) (s : State) {l : Bytes} {ls : List Bytes} → run_lines run ≡ l ∷ ls → run_on run s ≡ events_on (run_lines run) s
run_is_events run s {l} {ls} e =
    by_event l s
    (λ u w. run_22 run s u ∙ sym (rw e (same_off l ls s R.Unsound 0 w)))
    (λ r n u m t w. run_stopped run s r n u m t ∙ sym (rw e (same_off l ls s r n w)))
    (λ r u g f w. run_going run s u g)
    (λ a u g f w. run_going run s u g)

-- so whole lines are taken in one call as one by one
pub run_of_lines : {l : Bytes} {ls : List Bytes} (s : State) → WholeLines (l ∷ ls) → run_on (flatten (l ∷ ls)) s ≡ events_on (l ∷ ls) s
run_of_lines {l} {ls} s w =
    let run : Bytes = flatten (l ∷ ls) in
    let q = lines_only [] w (lacks_nil 10) in
    let a : lines_of run ≡ l ∷ ls = rw append-nil at q.0 in
    let b : rest_of run ≡ [] = rw append-nil at q.1 in
    let e : run_lines run ≡ l ∷ ls = lines_short run (omega (arith, ap length b)) ∙ a in
    run_is_events run s e ∙ ap (λ (x : List Bytes). events_on x s) e

-- a run in which no line ends, as the empty one, changes nothing where it is short and the reader goes on
pub run_unfinished : (run : Bytes) (s : State) → lacks 10 run ≡ true → length run ≤ 16384 → state_sound s ≡ true → is_stopped s.reader.stop ≡ false
    → run_on run s ≡ record { state = s; answer = Ok tt }
run_unfinished run s h k u g =
    let e : run_lines run ≡ [] = lines_short run (omega (arith, k, ap length (rest_open run h))) ∙ lines_open run h in
    run_going run s u g ∙ (ap (λ (x : List Bytes). events_on x s) e ∙ events_none s)

-- ---- what is left of a run, where it is too long for a line

-- such a line is refused 2
module _ (p : Bytes) (k : 16384 < length p) (h : lacks 10 p ≡ true) (s : State) where
  pub long_stops : step_at p s ≡ stops R.LongLine
  unfolding step_of
  long_stops = ap (λ (d : Decision). step_of d s) (long_alone p k h s.reader.place)

  pub long_refused : {C : Type 0} → ((r : Refusal) (n : ℕ) → (event_on p s).answer ≡ Err (refusal_at r n) → C) → C
  long_refused f =
      by_event p s
      (λ u w. f R.Unsound 0 (ap (λ (z : EventResult). z.answer) w))
      (λ r n u g t w. f r n (ap (λ (z : EventResult). z.answer) w))
      (λ r u g x w. f r _ (ap (λ (z : EventResult). z.answer) w))
      (λ l u g x w. let z = sym long_stops ∙ x in no (cc))

-- accepted lines leave a reader that goes on
pub lines_go : (ls : List Bytes) (s : State) → is_stopped s.reader.stop ≡ false → (events_on ls s).answer ≡ Ok tt → is_stopped (events_on ls s).state.reader.stop ≡ false
lines_go [] s g a = rw (events_none s) g
lines_go (l ∷ ls) s g a =
    by_answer (event_on l s).answer
    (λ x. let w = events_on_lem l ls s x in
    rw w (lines_go ls (event_on l s).state (ap is_stopped (event_counts l s x).1) (sym (ap (λ (z : EventResult). z.answer) w) ∙ a)))
    (λ r n x. let z = sym (ap (λ (z : EventResult). z.answer) (events_off l ls s r n x)) ∙ a in no (cc))

module _ (run : Bytes) (s : State) where
  abbrev whole : EventResult
  whole = events_on (lines_of run) s

  -- where the whole lines are accepted it is refused 2, at the line behind them, and stops the reader
  pub run_long : state_sound s ≡ true → is_stopped s.reader.stop ≡ false → whole.answer ≡ Ok tt → state_sound whole.state ≡ true → 16384 < length (rest_of run)
      → run_on run s ≡ stepped whole.state (stops R.LongLine)
  run_long u g a v k =
      run_going run s u g
      ∙ (run_more run s a
      ∙ (rw (lt-leb (length (rest_of run)) 16384 k) (events_one (rest_of run) whole.state)
      ∙ (event_going (rest_of run) whole.state v (lines_go (lines_of run) s g a) ∙ ap (stepped whole.state) (long_stops (rest_of run) k (rest_lacks run) whole.state))))

-- ---- what is taken

taken_enough : (ls ms : List Bytes) (s : State) (r : Refusal) (n : ℕ) → (events_on ls s).answer ≡ Err (refusal_at r n) → taken_bytes (ls ++ ms) s ≡ taken_bytes ls s
taken_enough [] ms s r n e = let z = sym (ap (λ (z : EventResult). z.answer) (events_none s)) ∙ e in no (cc)
taken_enough (l ∷ ls) ms s r n e =
    by_answer (event_on l s).answer
    (λ a. let w = events_on_lem l ls s a in
    taken_on l (ls ++ ms) s a
    ∙ (ap (length l +◌) (taken_enough ls ms (event_on l s).state r n (sym (ap (λ (z : EventResult). z.answer) w) ∙ e)) ∙ sym (taken_on l ls s a)))
    (λ x m a. taken_off l (ls ++ ms) s x m a ∙ sym (taken_off l ls s x m a))

-- a line that is refused adds nothing
taken_refused : (ls : List Bytes) (p : Bytes) (s : State) → (events_on ls s).answer ≡ Ok tt → (r : Refusal) (n : ℕ) → (event_on p (events_on ls s).state).answer ≡ Err (refusal_at r n)
    → taken_bytes (ls ++ (p ∷ [])) s ≡ taken_bytes ls s
taken_refused [] p s a r n x = taken_off p [] s r n (rw (events_none s) at x) ∙ sym (taken_none s)
taken_refused (l ∷ ls) p s a r n x =
    by_answer (event_on l s).answer
    (λ b. let w = events_on_lem l ls s b in
    taken_on l (ls ++ (p ∷ [])) s b
    ∙ (ap (length l +◌) (taken_refused ls p (event_on l s).state (sym (ap (λ (z : EventResult). z.answer) w) ∙ a) r n (rw w at x)) ∙ sym (taken_on l ls s b)))
    (λ y m b. let z = sym (ap (λ (z : EventResult). z.answer) (events_off l ls s y m b)) ∙ a in no (cc))

module _ (run : Bytes) (s : State) where
  -- what is left of a run is never taken
  pub run_taken : taken_bytes (run_lines run) s ≡ taken_bytes (lines_of run) s
  run_taken =
      by_le (length (rest_of run)) 16384
      (λ h. ap (λ (x : List Bytes). taken_bytes x s) (lines_short run h))
      (λ h. ap (λ (x : List Bytes). taken_bytes x s) (lines_long run h)
      ∙ by_answer (events_on (lines_of run) s).answer
      (λ a. long_refused (rest_of run) h (rest_lacks run) (events_on (lines_of run) s).state (taken_refused (lines_of run) (rest_of run) s a))
      (λ r n a. taken_enough (lines_of run) (rest_of run ∷ []) s r n a))

  -- a run that is refused by its lines has taken in the lines before the refused one, and its last event is that of the refused one
  pub run_refused : state_sound s ≡ true → is_stopped s.reader.stop ≡ false → (r : Refusal) (n : ℕ) → (run_on run s).answer ≡ Err (refusal_at r n) → RefusedLine (run_lines run) s
  run_refused u g r n a = refused_line (run_lines run) s r n (sym (ap (λ (z : EventResult). z.answer) (run_going run s u g)) ∙ a)
