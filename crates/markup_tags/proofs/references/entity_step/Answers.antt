-- `references::entity_step`: a semicolon ends the name.
use borrow.Author.Tests.{eq-eqb, ne_eqb}
use Rattle.markup.specs.Automaton.{reference_step}
use Rattle.markup_tags.proofs.references.entity_step.Goals as goal

pub returns-then-c-eq59 : goal.returns-then-c-eq59
unfolding reference_step
returns-then-c-eq59 c = rw (eq-eqb c.args.c 59 c.if-c-eq59.true) c.entity_ended.ensures

pub returns-else-c-eq59 : goal.returns-else-c-eq59
unfolding reference_step
returns-else-c-eq59 c = rw (ne_eqb c.args.c 59 c.if-c-eq59.false) c.entity_letter.ensures
