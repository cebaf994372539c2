-- The C boundary of a reader: what each entry leaves and replies. Words that are no reader's are refused 22, and nothing changes.
use Rattle.std.specs.Prelude.{ℕ, List, None, Option, Some}
use Rattle.base.specs.Bytes.{Bytes}
use Rattle.overlay.specs.Overlay.{Overlay}
use Rattle.reader.specs.State.{State}
use Rattle.reader.specs.Event.{EventResult, event_on, end_on}
use Rattle.reader.specs.declared.EventReader.{EventReader}
use Rattle.c_reader.specs.Words.{words_of_reader, reader_of_words}
use Rattle.input_lines.specs.Lines.{lines_of}
use Rattle.reader_events.specs.Events.{taken_bytes, run_on}
use Rattle.c_replies.specs.Readers.{answer_reply, no_reader, taken_reply}
use Rattle.c_replies.specs.declared.EventReply.{EventReply}
use Rattle.c_replies.specs.declared.EventsReply.{EventsReply}

-- overlay, a reader's words and its parts, and the reply that a call gives
pub record EventReplied : Type 0 where
  pub overlay : Overlay
  pub words : List ℕ
  pub parts : Bytes
  pub reply : EventReply

abbrev pub replied_event : EventResult → EventReplied
replied_event x = record { overlay = x.state.overlay; words = words_of_reader x.state.reader; parts = x.state.parts; reply = answer_reply x.answer }

abbrev pub event_named : Option EventReader → Bytes → Overlay → List ℕ → Bytes → EventReplied
event_named (Some r) line o words parts = replied_event (event_on line (record { overlay = o; reader = r; parts = parts }))
event_named None line o words parts = record { overlay = o; words = words; parts = parts; reply = no_reader }

unfoldable pub event_reply : Bytes → Overlay → List ℕ → Bytes → EventReplied
event_reply line o words parts = event_named (reader_of_words words) line o words parts

-- ---- a run of events

-- the same of a run
pub record EventsReplied : Type 0 where
  pub overlay : Overlay
  pub words : List ℕ
  pub parts : Bytes
  pub reply : EventsReply

abbrev pub replied_events : EventResult → ℕ → EventsReplied
replied_events x n =
    record { overlay = x.state.overlay; words = words_of_reader x.state.reader; parts = x.state.parts; reply = taken_reply (answer_reply x.answer) n }

abbrev pub run_replied : Bytes → State → EventsReplied
run_replied run s = replied_events (run_on run s) (taken_bytes (lines_of run) s)

abbrev pub events_named : Option EventReader → Bytes → Overlay → List ℕ → Bytes → EventsReplied
events_named (Some r) run o words parts = run_replied run (record { overlay = o; reader = r; parts = parts })
events_named None run o words parts = record { overlay = o; words = words; parts = parts; reply = taken_reply no_reader 0 }

unfoldable pub events_reply : Bytes → Overlay → List ℕ → Bytes → EventsReplied
events_reply run o words parts = events_named (reader_of_words words) run o words parts

-- ---- the end

abbrev pub end_named : Option EventReader → Overlay → Bytes → EventReply
end_named (Some r) o parts = answer_reply (end_on (record { overlay = o; reader = r; parts = parts })).answer
end_named None o parts = no_reader

unfoldable pub end_reply : Overlay → List ℕ → Bytes → EventReply
end_reply o words parts = end_named (reader_of_words words) o parts
