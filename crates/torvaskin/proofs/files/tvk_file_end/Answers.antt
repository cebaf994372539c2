-- The reply is that of `file_reader::end_on`; or nothing changes, and 22 is replied.
use mathlib.Core.Path.{sym, ◌∙◌}
use Rattle.overlay.specs.Lent.{overlay_in}
use Rattle.torvaskin.proofs.ReaderReplies.{read_some, read_none}
use Rattle.torvaskin.proofs.FileReplies.{file_some, file_none, file_end_is, end_no_reader, end_no_file}
use Rattle.torvaskin.proofs.files.tvk_file_end.Goals as goal

pub returns-in-Some-Some : goal.returns-in-Some-Some
returns-in-Some-Some c =
    let k = c.args in
    let i = read_some k.reader.now (sym c.in-Some-Some.is-0 ∙ c.reader_of.ensures) in
    let j = file_some k.file_words.now (sym c.in-Some-Some.is-1 ∙ c.file_of.ensures) in
    file_end_is (overlay_in k.words.now k.bytes.now k.counters.now)
    (record { words = k.reader.now; parts = k.parts.now; file_words = k.file_words.now; file_bytes = k.file_bytes.now })
    i.0 j.0 i.1 j.1 c.end_on.ensures c.from.ensures

pub returns-in-Some-None : goal.returns-in-Some-None
returns-in-Some-None c =
    let k = c.args in
    end_no_file (overlay_in k.words.now k.bytes.now k.counters.now)
    (record { words = k.reader.now; parts = k.parts.now; file_words = k.file_words.now; file_bytes = k.file_bytes.now })
    c.from-in-Some-None.ensures (file_none k.file_words.now (sym c.in-Some-None.is-1 ∙ c.file_of.ensures))

pub returns-in-None-default : goal.returns-in-None-default
returns-in-None-default c =
    let k = c.args in
    end_no_reader (overlay_in k.words.now k.bytes.now k.counters.now)
    (record { words = k.reader.now; parts = k.parts.now; file_words = k.file_words.now; file_bytes = k.file_bytes.now })
    c.from-in-None-default.ensures (read_none k.reader.now (sym c.in-None-default.is-0 ∙ c.reader_of.ensures))
