-- `markup_skipped::comments::hyphen_step`: a hyphen, or no comment.
use borrow.Author.Tests.{ne_eqb}
use Rattle.markup.specs.Automaton.{comment_step}
use Rattle.markup_skipped.proofs.comments.hyphen_step.Goals as goal

pub returns-then-c-eq45 : goal.returns-then-c-eq45
unfolding comment_step
returns-then-c-eq45 c = rw c.if-c-eq45.true

pub returns-else-c-eq45 : goal.returns-else-c-eq45
unfolding comment_step
returns-else-c-eq45 c = rw (ne_eqb c.args.c 45 c.if-c-eq45.false)
