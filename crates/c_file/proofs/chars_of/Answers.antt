-- Three bytes with which a character begins, or none.
use borrow.Author.Tests.{lt-ltb, le-ltb}
use Rattle.base.specs.Bytes.{both}
use Rattle.base.proofs.Split.{by_bool}
use Rattle.xml_chars.specs.Chars.{bytes_in, begun}
use Rattle.c_file.specs.Words.{chars_in, chars_coded}
use Rattle.c_file.proofs.chars_of.Goals as goal

pub returns-then-word-lt16777216 : goal.returns-then-word-lt16777216
unfolding chars_coded both
returns-then-word-lt16777216 c =
    rw (c.then_some.ensures, c.is_begun.ensures, c.chars_in-chars.ensures, lt-ltb c.args.word 16777216 c.if-word-lt16777216.true)
    (by_bool (begun (bytes_in (chars_in c.args.word))) (λ t. rw t) (λ t. rw t))

pub returns-else-word-lt16777216 : goal.returns-else-word-lt16777216
unfolding chars_coded both
returns-else-word-lt16777216 c = rw (le-ltb c.args.word 16777216 c.if-word-lt16777216.false)
