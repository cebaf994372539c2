-- What is left and the reply are those of `reader_events::events`; or nothing changes, and 22 is replied.
use Rattle.overlay.specs.Lent.{overlay_in}
use Rattle.torvaskin.proofs.ReaderReplies.{events_is, events_none, read_some, read_none}
use Rattle.torvaskin.proofs.readers.tvk_events.Goals as goal

pub returns-in-Some : goal.returns-in-Some
returns-in-Some c =
    let k = c.args in
    let i = read_some k.reader.now c.in-Some.ensures in
    let d = c.events-done.ensures in
    events_is (overlay_in k.words.now k.bytes.now k.counters.now) k.reader.now k.parts.now i.0 i.1 k.run.now d.answer_value d.taken_value c.put_reader.ensures c.events_reply.ensures

pub returns-in-None : goal.returns-in-None
returns-in-None c =
    let k = c.args in
    events_none (overlay_in k.words.now k.bytes.now k.counters.now) k.reader.now k.parts.now (read_none k.reader.now c.in-None.ensures) c.events_reply-in-None.ensures k.run.now
