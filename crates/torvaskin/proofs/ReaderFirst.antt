-- T4 at the C boundary of a reader: number, HELD and line of each reply are those of the first condition that holds, and 0 where none does. 22 for words that are no reader's; then the rows of
-- the event, the run or the end, for the reader that the words are.
use Rattle.std.specs.Prelude.{Result}
use Prim.Native.Nat.{ℕ}
use mathlib.Core.Path.{◌≡◌, ap}
use mathlib.Core.Bool.{cond}
use mathlib.Core.List.{List}
use Rattle.base.specs.Bytes.{Bytes}
use Rattle.base.proofs.Split.{by_bool}
use Rattle.refusal.specs.First.{first_of}
use Rattle.overlay.specs.Overlay.{Overlay}
use Rattle.input_lines.specs.Lines.{lines_of}
use Rattle.reader.specs.declared.RefusedAt.{RefusedAt}
use Rattle.reader.specs.Table.{answer_by, event_table, end_table}
use Rattle.reader.proofs.Tables.{event_first, end_first}
use Rattle.reader_events.specs.Events.{taken_bytes}
use Rattle.reader_events.specs.First.{run_table}
use Rattle.reader_events.proofs.First.{run_first}
use Rattle.c_reader.specs.Words.{is_reader, reader_of_words}
use Rattle.c_replies.specs.Readers.{answer_reply, taken_reply}
use Rattle.torvaskin.specs.First.{state_in, reader_call_table}
use Rattle.torvaskin.specs.Readers.{event_reply, events_reply, end_reply}

module _ (o : Overlay) (words : List ℕ) (parts : Bytes) where
  pub event_reply_first : (line : Bytes) → (event_reply line o words parts).reply ≡ answer_reply (answer_by (first_of (reader_call_table (event_table line) o words parts)))
  unfolding first_of event_reply reader_of_words
  event_reply_first line = by_bool (is_reader words) (λ i. rw i (ap answer_reply (event_first line (state_in o words parts)))) (λ i. rw i)

  -- a run's reply says besides how many bytes were taken: none for words that are no reader's
  pub events_reply_first : (run : Bytes) → (events_reply run o words parts).reply
      ≡ taken_reply (answer_reply (answer_by (first_of (reader_call_table (run_table run) o words parts)))) (cond (is_reader words) (taken_bytes (lines_of run) (state_in o words parts)) 0)
  unfolding first_of events_reply reader_of_words
  events_reply_first run =
      let n = taken_bytes (lines_of run) (state_in o words parts) in
      by_bool (is_reader words) (λ i. rw i (ap (λ (a : Result Unit RefusedAt). taken_reply (answer_reply a) n) (run_first run (state_in o words parts)))) (λ i. rw i)

  pub end_reply_first : end_reply o words parts ≡ answer_reply (answer_by (first_of (reader_call_table end_table o words parts)))
  unfolding first_of end_reply reader_of_words
  end_reply_first = by_bool (is_reader words) (λ i. rw i (ap answer_reply (end_first (state_in o words parts)))) (λ i. rw i)
