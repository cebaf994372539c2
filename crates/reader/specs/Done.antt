-- What the step of an event leaves of a reader's state, or its refusal: "Nothing lent changes" then. First the work on overlay and element is done, then the reader's place moves on.
use Rattle.std.specs.Prelude.{◌≡◌, Result, Ok, Err}
use Rattle.base.specs.Bytes.{Bytes}
use Rattle.refusal.specs.declared.Refusal.{Refusal}
use Rattle.nesting.specs.declared.Place.{Place}
use Rattle.overlay.specs.Overlay.{Overlay}
use Rattle.event_decision.specs.Decision.{Decision}
use Rattle.reader.specs.declared.Pending.{Pending}
use Rattle.reader.specs.State.{State}
use Rattle.reader.specs.Step.{Step, goes, stops, step_of}

pub record StepResult : Type 0 where
  pub state : State
  pub answer : Result Unit Refusal

-- a step done
abbrev pub done_by : State → Step → StepResult
done_by s (goes l) =
    record {
      state = record {
        overlay = l.overlay;
        reader = record { place = l.place; pending = l.pending; lines = s.reader.lines; stop = s.reader.stop };
        parts = l.parts;
      };
      answer = Ok tt;
    }
done_by s (stops r) = record { state = s; answer = Err r }

-- ---- by its work

-- what work leaves of overlay and lent bytes, and the element that the reader is putting together then
abbrev pub worked : State → Overlay → Bytes → Result Pending Refusal → StepResult
worked s o parts (Ok x) =
    record {
      state = record { overlay = o; reader = record { place = s.reader.place; pending = x; lines = s.reader.lines; stop = s.reader.stop }; parts = parts };
      answer = Ok tt;
    }
worked s o parts (Err r) = record { state = record { overlay = o; reader = s.reader; parts = parts }; answer = Err r }

-- the place that the reader stands at after work that was not refused
abbrev pub placed_by : Place → State → Result Unit Refusal → StepResult
placed_by p t (Ok tt) =
    record {
      state = record {
        overlay = t.overlay;
        reader = record { place = p; pending = t.reader.pending; lines = t.reader.lines; stop = t.reader.stop };
        parts = t.parts;
      };
      answer = Ok tt;
    }
placed_by p t (Err r) = record { state = t; answer = Err r }

abbrev pub placed : Place → StepResult → StepResult
placed p w = placed_by p w.state w.answer

-- work is the step of a decision, whatever place comes after it
abbrev pub Works : (Place → Decision) → State → StepResult → Type 0
Works d s w = (p : Place) → placed p w ≡ done_by s (step_of (d p) s)
