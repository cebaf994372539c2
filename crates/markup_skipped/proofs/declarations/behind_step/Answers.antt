-- `markup_skipped::declarations::behind_step`: the end, or no declaration.
use borrow.Author.Tests.{ne_eqb}
use Rattle.markup.specs.Automaton.{declaration_step}
use Rattle.markup_skipped.proofs.declarations.behind_step.Goals as goal

pub returns-then-c-eq62 : goal.returns-then-c-eq62
unfolding declaration_step
returns-then-c-eq62 c = rw c.if-c-eq62.true

pub returns-else-c-eq62 : goal.returns-else-c-eq62
unfolding declaration_step
returns-else-c-eq62 c = rw (ne_eqb c.args.c 62 c.if-c-eq62.false)
