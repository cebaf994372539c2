-- What an entry leaves and replies, from what an event and an end leave and answer; and where words are no reader's.
use Rattle.reader.specs.declared.RefusedAt.{RefusedAt}
use Rattle.std.specs.Prelude.{Result, Some, None}
use Prim.Native.Nat.{ℕ}
use mathlib.Core.Path.{◌≡◌}
use mathlib.Core.Bool.{true, false}
use mathlib.Core.List.{List}
use Rattle.base.specs.Bytes.{Bytes}
use Rattle.overlay.specs.Overlay.{Overlay}
use Rattle.reader.specs.State.{State}
use Rattle.reader.specs.Event.{event_on, end_on}
use Rattle.input_lines.specs.Lines.{lines_of}
use Rattle.reader_events.specs.Events.{taken_bytes, run_on}
use Rattle.reader.specs.declared.EventReader.{EventReader}
use Rattle.c_reader.specs.Words.{words_of_reader, reader_in, is_reader, reader_of_words}
use Rattle.c_reader.proofs.Coded.{coded, not_coded}
use Rattle.c_replies.specs.Readers.{answer_reply, no_reader, taken_reply}
use Rattle.c_replies.specs.declared.EventReply.{EventReply}
use Rattle.c_replies.specs.declared.EventsReply.{EventsReply}
use Rattle.torvaskin.specs.Readers.{event_reply, events_reply, end_reply}

-- the reader that words are, or none
pub read_some : (w : List ℕ) {x : EventReader} → Some x ≡ reader_of_words w → (is_reader w ≡ true) × (x ≡ reader_in w)
unfolding reader_of_words
read_some w e = coded e

pub read_none : (w : List ℕ) → None ≡ reader_of_words w → is_reader w ≡ false
unfolding reader_of_words
read_none w e = not_coded (reader_in w) e

module _ (o : Overlay) (w : List ℕ) (parts : Bytes) where
  module _ (i : is_reader w ≡ true) {x : EventReader} (e : x ≡ reader_in w) where
    pub event_is : (line : Bytes) {q : Overlay} {t : EventReader} {a : Result Unit RefusedAt} {ps : Bytes} {ws : List ℕ} {r : EventReply}
        → record { state = record { overlay = q; reader = t; parts = ps }; answer = a } ≡ event_on line (record { overlay = o; reader = x; parts = parts })
        → ws ≡ words_of_reader t → r ≡ answer_reply a → record { overlay = q; words = ws; parts = ps; reply = r } ≡ event_reply line o w parts
    unfolding event_reply reader_of_words
    event_is line f g h = rw (g, h, i, ← e, ← f)

    pub events_is : (run : Bytes) {q : Overlay} {t : EventReader} {a : Result Unit RefusedAt} {ps : Bytes} {n : ℕ} {ws : List ℕ} {r : EventsReply}
        → record { state = record { overlay = q; reader = t; parts = ps }; answer = a } ≡ run_on run (record { overlay = o; reader = x; parts = parts })
        → n ≡ taken_bytes (lines_of run) (record { overlay = o; reader = x; parts = parts })
        → ws ≡ words_of_reader t → r ≡ taken_reply (answer_reply a) n → record { overlay = q; words = ws; parts = ps; reply = r } ≡ events_reply run o w parts
    unfolding events_reply reader_of_words
    events_is run f k g h = rw (g, h, i, ← e, ← f, k)

    pub end_is : {s : State} {a : Result Unit RefusedAt} {r : EventReply} → record { state = s; answer = a } ≡ end_on (record { overlay = o; reader = x; parts = parts })
        → r ≡ answer_reply a → r ≡ end_reply o w parts
    unfolding end_reply reader_of_words
    end_is f h = rw (h, i, ← e, ← f)

  module _ (i : is_reader w ≡ false) {r : EventReply} (h : r ≡ no_reader) where
    pub event_none : (line : Bytes) → record { overlay = o; words = w; parts = parts; reply = r } ≡ event_reply line o w parts
    unfolding event_reply reader_of_words
    event_none line = rw (h, i)

    pub end_none : r ≡ end_reply o w parts
    unfolding end_reply reader_of_words
    end_none = rw (h, i)

  module _ (i : is_reader w ≡ false) {r : EventsReply} (h : r ≡ taken_reply no_reader 0) where
    pub events_none : (run : Bytes) → record { overlay = o; words = w; parts = parts; reply = r } ≡ events_reply run o w parts
    unfolding events_reply reader_of_words
    events_none run = rw (h, i)
