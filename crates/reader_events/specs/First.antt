-- Document 01, "What is returned, by place of the check", for a run of event lines: one ordered list of conditions. 22; the stop mark; then of each whole line the rows of its event, after the
-- lines before it; then those of what is left of the run.
use Rattle.reader.specs.declared.RefusedAt.{RefusedAt}
use Rattle.std.specs.Prelude.{List, [], ◌∷◌, ◌++◌, not, ltb, length}
use Rattle.base.specs.Bytes.{Bytes, both}
use Rattle.refusal.specs.First.{ConditionRow, row}
use Rattle.refusal.specs.declared.Refusal.TheVariants as R
use Rattle.input_lines.specs.Lines.{lines_of, rest_of}
use Rattle.reader.specs.State.{State, refusal_at, next_line, state_sound}
use Rattle.reader.specs.Event.{event_on}
use Rattle.reader.specs.Table.{unsound_state_row, stop_rows, event_table}
use Rattle.reader_events.specs.Events.{events_on}

-- lines, event by event
unfoldable pub events_table : List Bytes → State → List (ConditionRow RefusedAt)
events_table [] s = []
events_table (l ∷ ls) s = event_table l s ++ events_table ls (event_on l s).state

-- "2 over 16,384 bytes without its line feed": what is left, where it is already too long for a line. Before it 22, where the lines were the last that a reader counts.
unfoldable pub long_rest_table : Bytes → State → List (ConditionRow RefusedAt)
long_rest_table rest s =
    row (refusal_at R.Unsound 0) (both (ltb 16384 (length rest)) (not (state_sound s))) ∷ row (refusal_at R.LongLine (next_line s)) (ltb 16384 (length rest)) ∷ []

unfoldable pub run_table : Bytes → State → List (ConditionRow RefusedAt)
run_table run s =
    unsound_state_row s ∷ (stop_rows s.reader.stop
    ++ (events_table (lines_of run) s ++ long_rest_table (rest_of run) (events_on (lines_of run) s).state))
