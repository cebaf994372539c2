-- `markup_skipped::comments::two_hyphens_step`: the end, or no comment.
use borrow.Author.Tests.{ne_eqb}
use Rattle.markup.specs.Automaton.{comment_step}
use Rattle.markup_skipped.proofs.comments.two_hyphens_step.Goals as goal

pub returns-then-c-eq62 : goal.returns-then-c-eq62
unfolding comment_step
returns-then-c-eq62 c = rw c.if-c-eq62.true

pub returns-else-c-eq62 : goal.returns-else-c-eq62
unfolding comment_step
returns-else-c-eq62 c = rw (ne_eqb c.args.c 62 c.if-c-eq62.false)
