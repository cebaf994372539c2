-- The reply is that of `reader_calls::end`, or 22.
use Rattle.overlay.specs.Lent.{overlay_in}
use Rattle.torvaskin.proofs.ReaderReplies.{end_is, end_none, read_some, read_none}
use Rattle.torvaskin.proofs.readers.tvk_end.Goals as goal

pub returns-in-Some : goal.returns-in-Some
returns-in-Some c =
    let k = c.args in
    let i = read_some k.reader.now c.in-Some.ensures in
    end_is (overlay_in k.words.now k.bytes.now k.counters.now) k.reader.now k.parts.now i.0 i.1 c.end.ensures c.from.ensures

pub returns-in-None : goal.returns-in-None
returns-in-None c =
    let k = c.args in
    end_none (overlay_in k.words.now k.bytes.now k.counters.now) k.reader.now k.parts.now (read_none k.reader.now c.in-None.ensures) c.from-in-None.ensures
