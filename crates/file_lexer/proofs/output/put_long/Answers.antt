-- Three bytes, or four.
use Prim.Native.Nat.{◌+◌, ◌/◌, ◌%◌}
use mathlib.Core.Path.{◌∙◌}
use mathlib.Core.List.{[], ◌∷◌}
use Rattle.text.proofs.Chars.{utf8_3, utf8_4}
use Rattle.file_lexer.proofs.Lines.{grown_again}
use Rattle.file_lexer.proofs.output.put_long.Goals as goal

pub returns-then-c-lt65536 : goal.returns-then-c-lt65536
returns-then-c-lt65536 c =
    let a = c.args in
    let behind = c.put_byte-behind in
    rw (utf8_3 a.c c.requires.least c.if-c-lt65536.true)
    (c.put_two.ensures
    ∙ grown_again a.bytes.now a.used ((0xe0 + a.c / 4096) ∷ []) ((0x80 + a.c / 64 % 64) ∷ (0x80 + a.c % 64) ∷ []) (record { bytes = behind.new.bytes; used = behind.result })
    behind.ensures)

pub returns : goal.returns
returns c =
    let a = c.args in
    let behind = c.put_two-behind in
    rw (utf8_4 a.c c.if-c-lt65536.false)
    (c.put_two-2.ensures
    ∙ grown_again a.bytes.now a.used ((0xf0 + a.c / 262144) ∷ (0x80 + a.c / 4096 % 64) ∷ []) ((0x80 + a.c / 64 % 64) ∷ (0x80 + a.c % 64) ∷ [])
    (record { bytes = behind.new.bytes; used = behind.result }) behind.ensures)
