-- `start_tags::slash_step`: the end of the tag, or another character.
use borrow.Author.Tests.{eq-eqb, ne_eqb}
use Rattle.text.specs.Text.{encoded}
use Rattle.text.specs.Escape.{escape}
use Rattle.markup.specs.Automaton.{start_tag_step}
use Rattle.markup_tags.specs.Output.{written_by}
use Rattle.markup_tags.specs.StartTags.{attrs_line, start_tag_line, start_tag_kept}
use Rattle.markup_tags.proofs.start_tags.slash_step.Goals as goal

pub returns-then-c-eq62-clause-moved : goal.returns-then-c-eq62-clause-moved
unfolding start_tag_step start_tag_kept
returns-then-c-eq62-clause-moved c = rw (eq-eqb c.args.c 62 c.if-c-eq62.true)

pub returns-then-c-eq62-clause-output : goal.returns-then-c-eq62-clause-output
unfolding start_tag_step start_tag_line attrs_line encoded escape written_by
returns-then-c-eq62-clause-output c = rw (eq-eqb c.args.c 62 c.if-c-eq62.true)

pub returns-else-c-eq62-clause-moved : goal.returns-else-c-eq62-clause-moved
unfolding start_tag_step start_tag_kept
returns-else-c-eq62-clause-moved c = rw (ne_eqb c.args.c 62 c.if-c-eq62.false)

pub returns-else-c-eq62-clause-output : goal.returns-else-c-eq62-clause-output
unfolding start_tag_step start_tag_line attrs_line encoded escape written_by
returns-else-c-eq62-clause-output c = rw (ne_eqb c.args.c 62 c.if-c-eq62.false)
