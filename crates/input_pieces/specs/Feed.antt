-- An input in pieces: the whole lines of a piece are events, up to the first that is refused; the unfinished line is kept for the next piece. A line of more than 16,384
-- bytes is refused 2 as soon as 16,385 of them are there, so what is kept is never longer.
use Rattle.reader.specs.declared.RefusedAt.{RefusedAt}
use Rattle.std.specs.Prelude.{ℕ, length, take, Ok, Err, Result}
use mathlib.Core.List.{List, [], ◌∷◌, ◌++◌, foldl}
use Rattle.base.specs.Bytes.{Bytes}
use Rattle.little.specs.Little.{over}
use Rattle.input_lines.specs.Lines.{rest_of, last_line}
use Rattle.reader.specs.State.{State}
use Rattle.reader.specs.Event.{event_on}
use Rattle.reader_events.specs.Events.{events_on, run_lines}

-- a line is an event
abbrev pub after_event : State → Bytes → State
after_event s line = (event_on line s).state

-- ---- a piece

-- what is held between pieces: the state, and a buffer that begins with the unfinished line
pub record Intake : Type 0 where
  pub state : State
  pub buffer : Bytes
  pub held : ℕ

pub record IntakeResult : Type 0 where
  pub intake : Intake
  pub answer : Result Unit RefusedAt

-- the kept bytes
abbrev pub kept_line : Intake → Bytes
kept_line f = take f.held f.buffer

-- after the lines of so many bytes in a buffer: what follows them is moved to its front; after a refusal nothing is kept
abbrev pub kept_after : Bytes → Bytes → Result Unit RefusedAt → State → IntakeResult
kept_after buffer s (Ok tt) t = record { intake = record { state = t; buffer = over buffer 0 (rest_of s); held = length (rest_of s) }; answer = Ok tt }
kept_after buffer s (Err a) t = record { intake = record { state = t; buffer = buffer; held = 0 }; answer = Err a }

-- a piece behind what is kept
unfoldable pub feed_on : Bytes → Intake → IntakeResult
feed_on piece f =
    let s = kept_line f ++ piece in
    let a = events_on (run_lines s) f.state in
    kept_after (over f.buffer f.held piece) s a.answer a.state

-- pieces up to the first in which an event is refused: the program reads no further
abbrev pub onward_fed : (Intake → Intake) → Result Unit RefusedAt → Intake → Intake
onward_fed next (Ok tt) f = next f
onward_fed next (Err a) f = f

unfoldable pub read_on : List Bytes → Intake → Intake
read_on [] f = f
read_on (p ∷ ps) f = onward_fed (read_on ps) (feed_on p f).answer (feed_on p f).intake

-- ---- the end of the input

-- a last line without its line feed is a line too
unfoldable pub state_at_end : Intake → State
state_at_end f = foldl after_event f.state (last_line (kept_line f))
