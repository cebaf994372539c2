-- `markup_skipped::instructions::behind_target_step`: the end, or no instruction.
use borrow.Author.Tests.{ne_eqb}
use Rattle.markup.specs.Automaton.{instruction_step}
use Rattle.markup_skipped.proofs.instructions.behind_target_step.Goals as goal

pub returns-then-c-eq62 : goal.returns-then-c-eq62
unfolding instruction_step
returns-then-c-eq62 c = rw c.if-c-eq62.true

pub returns-else-c-eq62 : goal.returns-else-c-eq62
unfolding instruction_step
returns-else-c-eq62 c = rw (ne_eqb c.args.c 62 c.if-c-eq62.false)
