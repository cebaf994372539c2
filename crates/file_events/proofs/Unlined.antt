-- An event does not depend on the count of lines before it, but for LINE.
use Rattle.std.specs.Prelude.{Ok, Err, Result, None, Option, Some}
use Prim.Native.Nat.{ℕ, ◌<◌}
use mathlib.Core.Path.{◌≡◌, refl, sym, ◌∙◌, ap}
use mathlib.Core.Bool.{Bool, true, false, cond}
use mathlib.Core.List.{List}
use borrow.Author.Tests.{lt-ltb}
use Rattle.base.specs.Bytes.{Bytes, both}
use Rattle.base.proofs.Split.{by_bool}
use Rattle.refusal.specs.declared.Refusal.TheVariants as R
use Rattle.overlay.specs.Sound.{is_sound}
use Rattle.event_decision.specs.Decision.{Decision, refuses, moves, begins, deletes, tags, refers, joins, ends, decide}
use Rattle.reader.specs.State.{State, is_stopped, pending_sound, reader_sound, state_sound, refusal_at}
use Rattle.reader.specs.Step.{Step, goes, stops, step_of}
use Rattle.reader.specs.Event.{EventResult, refused_at, stepped, event_on}
use Rattle.reader.proofs.Answers.{event_22, event_going}
use Rattle.file_reader.specs.File.{with_lines}
use Rattle.file_events.specs.Unlined.{unlined, Outcome, event_outcome}

step_same : (d : Decision) (s : State) (n : ℕ) → step_of d (with_lines n s) ≡ step_of d s
unfolding step_of
step_same (refuses r) s n = refl
step_same (moves p) s n = refl
step_same (begins true p id m b) s n = refl
step_same (begins false p id m b) s n = refl
step_same (deletes k p id m) s n = refl
step_same (tags p t) s n = refl
step_same (refers p z) s n = refl
step_same (joins p x) s n = refl
step_same (ends p) s n = refl

-- sound but for the count of lines
abbrev pub sound_so_far : State → Bool
sound_so_far s = both (is_sound s.overlay) (both (pending_sound s.overlay.texts.strings s.reader.place.kind s.parts s.reader.pending) true)

pub sound_same : (s : State) (n : ℕ) → n < 18446744073709551615 → state_sound (with_lines n s) ≡ sound_so_far s
unfolding state_sound reader_sound
sound_same s n h = rw (lt-ltb n 18446744073709551615 h)

-- what an event comes to, by its step
abbrev outcome_by : Bool → Step → State → Outcome
outcome_by true (stops r) s =
    record {
      state = record { overlay = s.overlay; reader = record { place = s.reader.place; pending = s.reader.pending; lines = 0; stop = Some (refusal_at r 0) }; parts = s.parts };
      answer = Err r;
    }
outcome_by true (goes l) s =
    record { state = record { overlay = l.overlay; reader = record { place = l.place; pending = l.pending; lines = 0; stop = None }; parts = l.parts }; answer = Ok tt }
outcome_by false x s = record { state = unlined s; answer = Err R.Unsound }

by_step : (s : State) (n : ℕ) (x : Step) → event_outcome (stepped (with_lines n s) x) ≡ outcome_by true x s
by_step s n (stops r) = refl
by_step s n (goes l) = refl

comes_to : (l : Bytes) (s : State) (n : ℕ) → s.reader.stop ≡ None → n < 18446744073709551615
    → event_outcome (event_on l (with_lines n s)) ≡ outcome_by (sound_so_far s) (step_of (decide l s.reader.place) s) s
comes_to l s n g h =
    let x = step_of (decide l s.reader.place) s in
    let q = sound_same s n h in
    by_bool (sound_so_far s)
    (λ u. ap event_outcome (event_going l (with_lines n s) (q ∙ u) (ap is_stopped g))
    ∙ (ap (λ y. event_outcome (stepped (with_lines n s) y)) (step_same (decide l s.reader.place) s n)
    ∙ (by_step s n x ∙ ap (λ b. outcome_by b x s) (sym u))))
    (λ u. ap event_outcome (event_22 l (with_lines n s) (q ∙ u)) ∙ (outcome_22 x ∙ ap (λ b. outcome_by b x s) (sym u)))
  where
    outcome_22 : (x : Step) → event_outcome (refused_at (with_lines n s) R.Unsound 0) ≡ outcome_by false x s
    outcome_22 (stops r) = refl
    outcome_22 (goes l) = refl

-- below the largest count, lines count for LINE alone
pub event_unlined : (l : Bytes) (s : State) (m n : ℕ) → s.reader.stop ≡ None → m < 18446744073709551615 → n < 18446744073709551615
    → event_outcome (event_on l (with_lines m s)) ≡ event_outcome (event_on l (with_lines n s))
event_unlined l s m n g h k = comes_to l s m g h ∙ sym (comes_to l s n g k)
