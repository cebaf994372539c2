-- What is left and the reply are those of `reader_calls::event`; or nothing changes, and 22 is replied.
use Rattle.overlay.specs.Lent.{overlay_in}
use Rattle.torvaskin.proofs.ReaderReplies.{event_is, event_none, read_some, read_none}
use Rattle.torvaskin.proofs.readers.tvk_event.Goals as goal

pub returns-in-Some : goal.returns-in-Some
returns-in-Some c =
    let k = c.args in
    let i = read_some k.reader.now c.in-Some.ensures in
    event_is (overlay_in k.words.now k.bytes.now k.counters.now) k.reader.now k.parts.now i.0 i.1 k.line.now c.event-answer.ensures c.put_reader.ensures c.from.ensures

pub returns-in-None : goal.returns-in-None
returns-in-None c =
    let k = c.args in
    event_none (overlay_in k.words.now k.bytes.now k.counters.now) k.reader.now k.parts.now (read_none k.reader.now c.in-None.ensures) c.from-in-None.ensures k.line.now
