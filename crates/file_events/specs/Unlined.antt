-- A state and an answer without their line numbers: "the state after a file is the state after its event lines but for line numbers, and each answer is the same but for its LINE".
use Rattle.reader.specs.declared.RefusedAt.{RefusedAt}
use Rattle.std.specs.Prelude.{Ok, Err, Result, None, Option, Some}
use Rattle.refusal.specs.declared.Refusal.{Refusal}
use Rattle.refusal.specs.declared.Refusal.TheVariants as R
use Rattle.reader.specs.declared.EventReader.{EventReader}
use Rattle.reader.specs.State.{State, refusal_at}
use Rattle.reader.specs.Event.{EventResult}
use Rattle.file_reader.specs.File.{FileResult}

abbrev pub unlined_stop : Option RefusedAt → Option RefusedAt
unlined_stop None = None
unlined_stop (Some a) = Some (refusal_at a.refusal 0)

abbrev pub unlined : State → State
unlined s =
    record {
      overlay = s.overlay;
      reader = record { place = s.reader.place; pending = s.reader.pending; lines = 0; stop = unlined_stop s.reader.stop };
      parts = s.parts;
    }

abbrev pub unlined_answer : Result Unit RefusedAt → Result Unit Refusal
unlined_answer (Ok tt) = Ok tt
unlined_answer (Err a) = Err a.refusal

-- what a call leaves, and what it answers
pub record Outcome : Type 0 where
  pub state : State
  pub answer : Result Unit Refusal

abbrev pub event_outcome : EventResult → Outcome
event_outcome r = record { state = unlined r.state; answer = unlined_answer r.answer }

abbrev pub file_outcome : FileResult → Outcome
file_outcome r = record { state = unlined r.file.state; answer = unlined_answer r.answer }

-- ---- "4 only for an attribute twice", which a file tells as 25

unfoldable pub told_refusal : Refusal → Refusal
told_refusal R.NotEventLine = R.NotMarkup
told_refusal r = r

abbrev pub told_stop : Option RefusedAt → Option RefusedAt
told_stop None = None
told_stop (Some a) = Some (refusal_at (told_refusal a.refusal) a.line)

abbrev pub told_answer : Result Unit Refusal → Result Unit Refusal
told_answer (Ok tt) = Ok tt
told_answer (Err r) = Err (told_refusal r)

-- what an event line comes to, as a markup of a file that stands for it does
abbrev pub told_outcome : Outcome → Outcome
told_outcome x =
    record {
      state = record {
        overlay = x.state.overlay;
        reader = record { place = x.state.reader.place; pending = x.state.reader.pending; lines = x.state.reader.lines; stop = told_stop x.state.reader.stop };
        parts = x.state.parts;
      };
      answer = told_answer x.answer;
    }
