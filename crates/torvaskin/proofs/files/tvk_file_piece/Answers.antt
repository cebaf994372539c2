-- What is left and the reply are those of `file_reader::piece_on`; or nothing changes, and 22 is replied.
use Rattle.std.proofs.Common.{rules}
use mathlib.Core.Path.{sym, ◌∙◌}
use Rattle.overlay.specs.Lent.{overlay_in}
use Rattle.torvaskin.proofs.ReaderReplies.{read_some, read_none}
use Rattle.torvaskin.proofs.FileReplies.{file_some, file_none, piece_is, piece_no_reader, piece_no_file}
use Rattle.torvaskin.proofs.files.tvk_file_piece.Goals as goal

pub returns-in-Some-Some : goal.returns-in-Some-Some
returns-in-Some-Some c =
    let k = c.args in
    let i = read_some k.reader.now (sym c.in-Some-Some.is-0 ∙ c.reader_of.ensures) in
    let j = file_some k.file_words.now (sym c.in-Some-Some.is-1 ∙ c.file_of.ensures) in
    piece_is (overlay_in k.words.now k.bytes.now k.counters.now)
    (record { words = k.reader.now; parts = k.parts.now; file_words = k.file_words.now; file_bytes = k.file_bytes.now })
    i.0 j.0 i.1 j.1 k.piece.now c.put_reader.ensures c.put_file.ensures c.from.ensures (search rules)

pub returns-in-Some-None : goal.returns-in-Some-None
returns-in-Some-None c =
    let k = c.args in
    piece_no_file (overlay_in k.words.now k.bytes.now k.counters.now)
    (record { words = k.reader.now; parts = k.parts.now; file_words = k.file_words.now; file_bytes = k.file_bytes.now })
    c.from-in-Some-None.ensures (file_none k.file_words.now (sym c.in-Some-None.is-1 ∙ c.file_of.ensures)) k.piece.now

pub returns-in-None-default : goal.returns-in-None-default
returns-in-None-default c =
    let k = c.args in
    piece_no_reader (overlay_in k.words.now k.bytes.now k.counters.now)
    (record { words = k.reader.now; parts = k.parts.now; file_words = k.file_words.now; file_bytes = k.file_bytes.now })
    c.from-in-None-default.ensures (read_none k.reader.now (sym c.in-None-default.is-0 ∙ c.reader_of.ensures)) k.piece.now
