use native.Mathlib.Omega.{arith}
use borrow.Author.Tests.{ne_eqb, lt-ltb}
use Rattle.base.specs.Bytes.{both}
use Rattle.file_lexer.specs.Lexing.{counted}
use Rattle.file_lexer.proofs.byte.counted.Goals as goal

pub returns-then-byte-ne10 : goal.returns-then-byte-ne10
unfolding counted both
returns-then-byte-ne10 c = rw (ne_eqb c.args.byte 10 c.if-byte-ne10.true)

pub returns-then-lines-eq18446744073709551615 : goal.returns-then-lines-eq18446744073709551615
unfolding counted both
returns-then-lines-eq18446744073709551615 c = rw (c.if-byte-ne10.false, c.if-lines-eq18446744073709551615.true)

pub returns : goal.returns
unfolding counted both
returns c = rw (c.if-byte-ne10.false, lt-ltb c.args.lines 18446744073709551615 (omega arith))
