-- A refused event leaves a state that no further event changes, so events up to the first that is refused are the events of all lines; and a line that is too long is refused
-- whatever it goes on with.
use Rattle.std.specs.Prelude.{Err}
use Prim.Native.Nat.{ℕ, ◌<◌}
use mathlib.Core.Path.{◌≡◌, sym, ◌∙◌, ap}
use mathlib.Core.Bool.{true}
use mathlib.Core.List.{List, [], ◌∷◌, ◌++◌, foldl}
use lib.ListN.{length}
use Rattle.base.specs.Bytes.{Bytes}
use Rattle.base.proofs.Split.{clash, no}
use Rattle.refusal.specs.declared.Refusal.{Refusal}
use Rattle.line.proofs.Lines.{lacks}
use Rattle.input_lines.proofs.Streams.{Still, still_taken}
use Rattle.input_lines.proofs.Long.{long_stands}
use Rattle.event_decision.specs.Decision.{Decision}
use Rattle.reader.specs.State.{State, stops_by, refusal_at}
use Rattle.reader.specs.Step.{step_of}
use Rattle.reader.specs.Event.{EventResult, event_on, unless_unsound, unless_stopped, stepped}
use Rattle.reader.proofs.Answers.{by_answer, event_22}
use Rattle.reader.proofs.Events.{by_refused, event_repeats, unsound_stops_not}
use Rattle.reader_events.specs.Events.{events_on}
use Rattle.reader_events.proofs.Onward.{events_none, events_on_lem, events_off}
use Rattle.reader_events.proofs.Answers.{long_refused}
use Rattle.input_pieces.specs.Feed.{after_event}

-- ---- a refusal

module _ (line : Bytes) (s : State) (r : Refusal) (n : ℕ) (a : (event_on line s).answer ≡ Err (refusal_at r n)) where
  pub refused_still : Still after_event (event_on line s).state
  refused_still l =
      by_refused line s r n a
      (λ u k j w. rw w (ap (λ (z : EventResult). z.state) (event_22 l s u)))
      (λ u t w. ap (λ (z : EventResult). z.state) (event_repeats line s r n a (λ k. clash t (ap stops_by k ∙ unsound_stops_not)) l))

-- ---- lines up to the first that is refused

-- the state after them is that after all
pub events_fold : (ls : List Bytes) (s : State) → (events_on ls s).state ≡ foldl after_event s ls
events_fold [] s = ap (λ (z : EventResult). z.state) (events_none s)
events_fold (l ∷ ls) s =
    by_answer (event_on l s).answer
    (λ a. ap (λ (z : EventResult). z.state) (events_on_lem l ls s a) ∙ events_fold ls (event_on l s).state)
    (λ r n a. ap (λ (z : EventResult). z.state) (events_off l ls s r n a) ∙ sym (still_taken after_event (event_on l s).state (refused_still l s r n a) ls))

-- after a refusal it is still
pub events_still : (ls : List Bytes) (s : State) (r : Refusal) (n : ℕ) → (events_on ls s).answer ≡ Err (refusal_at r n) → Still after_event (events_on ls s).state
events_still [] s r n e = let z = sym (ap (λ (z : EventResult). z.answer) (events_none s)) ∙ e in no (cc)
events_still (l ∷ ls) s r n e =
    by_answer (event_on l s).answer
    (λ a. let w = events_on_lem l ls s a in rw w (events_still ls (event_on l s).state r n (sym (ap (λ (z : EventResult). z.answer) w) ∙ e)))
    (λ x m a. rw (events_off l ls s x m a) (refused_still l s x m a))

-- ---- a line that is too long

module _ (p : Bytes) (k : 16384 < length p) (h : lacks 10 p ≡ true) (s : State) where
  pub long_same : (t : Bytes) → event_on (p ++ t) s ≡ event_on p s
  unfolding event_on
  long_same t = ap (λ (d : Decision). unless_unsound s (unless_stopped s.reader.stop s (stepped s (step_of d s)))) (long_stands p k h t s.reader.place)

  pub long_still : Still after_event (after_event s p)
  long_still = long_refused p k h s (λ r n a. refused_still p s r n a)
