-- Document 01: an event and an end. "Nothing lent changes but the reader's own stop mark: a refused event, except for 22, stops its reader, and later events and the
-- end repeat that number, line and HELD."
use Rattle.reader.specs.declared.RefusedAt.{RefusedAt}
use Rattle.std.specs.Prelude.{ℕ, cond, Ok, Err, Result, Option, Some, None}
use Rattle.base.specs.Bytes.{Bytes}
use Rattle.refusal.specs.declared.Refusal.{Refusal}
use Rattle.refusal.specs.declared.Refusal.TheVariants as R
use Rattle.nesting.specs.declared.Level.{Level}
use Rattle.nesting.specs.declared.Level.TheVariants as L
use Rattle.event_decision.specs.Decision.{decide}
use Rattle.reader.specs.declared.EventReader.{EventReader}
use Rattle.reader.specs.State.{State, next_line, stops_by, state_sound, refusal_at}
use Rattle.reader.specs.Step.{Step, goes, stops, step_of}

pub record EventResult : Type 0 where
  pub state : State
  pub answer : Result Unit RefusedAt

-- nothing changes
abbrev pub refused_at : State → Refusal → ℕ → EventResult
refused_at s r line = record { state = s; answer = Err (refusal_at r line) }

-- a refused event stops its reader
abbrev pub stopped_at : EventReader → Refusal → ℕ → EventReader
stopped_at r x line = record { place = r.place; pending = r.pending; lines = r.lines; stop = Some (refusal_at x line) }

-- an event by its step: the lines count on, or the reader stops
abbrev pub stepped : State → Step → EventResult
stepped s (stops r) =
    record { state = record { overlay = s.overlay; reader = stopped_at s.reader r (next_line s); parts = s.parts }; answer = Err (refusal_at r (next_line s)) }
stepped s (goes l) =
    record {
      state = record { overlay = l.overlay; reader = record { place = l.place; pending = l.pending; lines = next_line s; stop = None }; parts = l.parts };
      answer = Ok tt;
    }

-- a stopped reader repeats; a mark that no refused event leaves stops nothing
abbrev pub unless_stopped : Option RefusedAt → State → EventResult → EventResult
unless_stopped None s a = a
unless_stopped (Some stop) s a = cond (stops_by stop.refusal) (refused_at s stop.refusal stop.line) a

-- 22 first, which names no line
abbrev pub unless_unsound : State → EventResult → EventResult
unless_unsound s a = cond (state_sound s) a (refused_at s R.Unsound 0)

unfoldable pub event_on : Bytes → State → EventResult
event_on line s = unless_unsound s (unless_stopped s.reader.stop s (stepped s (step_of (decide line s.reader.place) s)))

-- ---- the end: "18 level is not Done". It stops nothing and changes nothing.

abbrev pub end_at : Level → State → EventResult
end_at L.Done s = record { state = s; answer = Ok tt }
end_at L.Doc s = refused_at s R.Unfinished (next_line s)
end_at L.Root s = refused_at s R.Unfinished (next_line s)
end_at L.Section s = refused_at s R.Unfinished (next_line s)
end_at L.Element s = refused_at s R.Unfinished (next_line s)
end_at L.Leaf s = refused_at s R.Unfinished (next_line s)
end_at L.Other s = refused_at s R.Unfinished (next_line s)

unfoldable pub end_on : State → EventResult
end_on s = unless_unsound s (unless_stopped s.reader.stop s (end_at s.reader.place.level s))
