-- A run of event lines: 22 first, then the reader's stop mark; then its lines event by event, up to the first that is refused, and how many bytes were taken.
use Rattle.reader.specs.declared.RefusedAt.{RefusedAt}
use Rattle.std.specs.Prelude.{ℕ, ◌+◌, cond, leb, List, [], ◌∷◌, ◌++◌, length, Ok, Err, Result}
use Rattle.base.specs.Bytes.{Bytes}
use Rattle.input_lines.specs.Lines.{lines_of, rest_of}
use Rattle.reader.specs.State.{State}
use Rattle.reader.specs.Event.{EventResult, unless_unsound, unless_stopped, event_on}

-- ---- lines

-- an event, and what comes after it where it was accepted
abbrev pub events_onward : (State → EventResult) → Result Unit RefusedAt → State → EventResult
events_onward next (Ok tt) s = next s
events_onward next (Err a) s = record { state = s; answer = Err a }

-- lines, event by event, up to the first that is refused
unfoldable pub events_on : List Bytes → State → EventResult
events_on [] s = record { state = s; answer = Ok tt }
events_on (l ∷ ls) s = events_onward (events_on ls) (event_on l s).answer (event_on l s).state

-- a line is taken where its event is accepted, and then what comes after it
abbrev pub taken_onward : ℕ → (State → ℕ) → Result Unit RefusedAt → State → ℕ
taken_onward n next (Ok tt) s = n + next s
taken_onward n next (Err a) s = 0

-- the bytes of the lines that are taken: of all, or of those before the first that is refused
unfoldable pub taken_bytes : List Bytes → State → ℕ
taken_bytes [] s = 0
taken_bytes (l ∷ ls) s = taken_onward (length l) (taken_bytes ls) (event_on l s).answer (event_on l s).state

-- ---- a run

-- "2 over 16,384 bytes without its line feed": what follows the last line feed is no line yet, but it is judged as it stands where it is already too long for one
abbrev pub long_rest : Bytes → List Bytes
long_rest rest = cond (leb (length rest) 16384) [] (rest ∷ [])

-- the lines that bytes without an end give
unfoldable pub run_lines : Bytes → List Bytes
run_lines run = lines_of run ++ long_rest (rest_of run)

-- Whatever the run holds: "each call .., first: 22 unsound storage", and a stopped reader repeats; then its lines.
unfoldable pub run_on : Bytes → State → EventResult
run_on run s = unless_unsound s (unless_stopped s.reader.stop s (events_on (run_lines run) s))
