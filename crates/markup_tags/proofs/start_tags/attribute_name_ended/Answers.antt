-- `start_tags::attribute_name_ended`: white space, the equals sign, or neither.
use mathlib.Core.Path.{sym}
use borrow.Author.Tests.{eq-eqb, ne_eqb}
use Rattle.text.specs.Text.{encoded}
use Rattle.text.specs.Escape.{escape}
use Rattle.markup.specs.Automaton.{attribute_name_ended}
use Rattle.markup_tags.specs.Output.{written_by}
use Rattle.markup_tags.specs.StartTags.{attrs_line, start_tag_line, start_tag_kept}
use Rattle.markup_tags.proofs.start_tags.attribute_name_ended.Goals as goal

pub returns-then-is_white_space-clause-moved : goal.returns-then-is_white_space-clause-moved
unfolding attribute_name_ended start_tag_kept
returns-then-is_white_space-clause-moved c = rw (sym c.if-is_white_space.ensures)

pub returns-then-is_white_space-clause-output : goal.returns-then-is_white_space-clause-output
unfolding attribute_name_ended start_tag_line attrs_line encoded escape written_by
returns-then-is_white_space-clause-output c = rw (sym c.if-is_white_space.ensures)

pub returns-then-c-eq61-clause-moved : goal.returns-then-c-eq61-clause-moved
unfolding attribute_name_ended start_tag_kept
returns-then-c-eq61-clause-moved c = rw (sym c.if-is_white_space.ensures, eq-eqb c.args.c 61 c.if-c-eq61.true)

pub returns-then-c-eq61-clause-output : goal.returns-then-c-eq61-clause-output
unfolding attribute_name_ended start_tag_line attrs_line encoded escape written_by
returns-then-c-eq61-clause-output c = rw (sym c.if-is_white_space.ensures, eq-eqb c.args.c 61 c.if-c-eq61.true)

pub returns-else-c-eq61-clause-moved : goal.returns-else-c-eq61-clause-moved
unfolding attribute_name_ended start_tag_kept
returns-else-c-eq61-clause-moved c = rw (sym c.if-is_white_space.ensures, ne_eqb c.args.c 61 c.if-c-eq61.false)

pub returns-else-c-eq61-clause-output : goal.returns-else-c-eq61-clause-output
unfolding attribute_name_ended start_tag_line attrs_line encoded escape written_by
returns-else-c-eq61-clause-output c = rw (sym c.if-is_white_space.ensures, ne_eqb c.args.c 61 c.if-c-eq61.false)
