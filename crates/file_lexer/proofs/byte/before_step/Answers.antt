use borrow.Author.Tests.{ne_eqb}
use Rattle.file_lexer.specs.Lexing.{before_step}
use Rattle.file_lexer.proofs.byte.before_step.Goals as goal

pub returns-then-byte-eq239 : goal.returns-then-byte-eq239
unfolding before_step
returns-then-byte-eq239 c = rw (c.in-Nothing.is, c.if-byte-eq239.true)

pub returns-else-byte-eq239 : goal.returns-else-byte-eq239
unfolding before_step
returns-else-byte-eq239 c = rw (c.in-Nothing.is, ne_eqb c.args.byte 239 c.if-byte-eq239.false)

pub returns-then-byte-eq187 : goal.returns-then-byte-eq187
unfolding before_step
returns-then-byte-eq187 c = rw (c.in-MarkFirst.is, c.if-byte-eq187.true)

pub returns-else-byte-eq187 : goal.returns-else-byte-eq187
unfolding before_step
returns-else-byte-eq187 c = rw (c.in-MarkFirst.is, ne_eqb c.args.byte 187 c.if-byte-eq187.false)

pub returns-then-byte-eq191 : goal.returns-then-byte-eq191
unfolding before_step
returns-then-byte-eq191 c = rw (c.in-MarkSecond.is, c.if-byte-eq191.true)

pub returns-else-byte-eq191 : goal.returns-else-byte-eq191
unfolding before_step
returns-else-byte-eq191 c = rw (c.in-MarkSecond.is, ne_eqb c.args.byte 191 c.if-byte-eq191.false)

pub returns-in-Mark : goal.returns-in-Mark
unfolding before_step
returns-in-Mark c = rw c.in-Mark.is

pub returns-in-Text : goal.returns-in-Text
unfolding before_step
returns-in-Text c = rw c.in-Text.is
