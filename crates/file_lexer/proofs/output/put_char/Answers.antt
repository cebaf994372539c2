-- By the number of bytes.
use Rattle.text.proofs.Chars.{utf8_1, utf8_2}
use Rattle.file_lexer.proofs.output.put_char.Goals as goal

pub returns-then-c-lt128 : goal.returns-then-c-lt128
returns-then-c-lt128 c = rw (utf8_1 c.args.c c.if-c-lt128.true) c.put_byte.ensures

pub returns-then-c-lt2048 : goal.returns-then-c-lt2048
returns-then-c-lt2048 c = rw (utf8_2 c.args.c c.if-c-lt128.false c.if-c-lt2048.true) c.put_two.ensures
