-- `markup_skipped::instructions::first_letter`: an `x`, an `X`, or another letter.
use Rattle.markup_skipped.proofs.Targets.{first_x, first_upper, first_other}
use Rattle.markup_skipped.proofs.instructions.first_letter.Goals as goal

pub returns-then-c-eq120 : goal.returns-then-c-eq120
returns-then-c-eq120 c = rw c.if-c-eq120.true first_x

pub returns-then-c-eq88 : goal.returns-then-c-eq88
returns-then-c-eq88 c = rw c.if-c-eq88.true first_upper

pub returns-else-c-eq88 : goal.returns-else-c-eq88
returns-else-c-eq88 c = first_other c.args.c c.if-c-eq120.false c.if-c-eq88.false
