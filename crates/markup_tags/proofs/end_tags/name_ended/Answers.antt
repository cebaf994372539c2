-- `end_tags::name_ended`: white space, the end of the tag, or neither.
use mathlib.Core.Path.{sym}
use borrow.Author.Tests.{eq-eqb, ne_eqb}
use Rattle.text.specs.Text.{encoded}
use Rattle.markup.specs.Automaton.{end_name_ended, end_tag_step}
use Rattle.markup_tags.specs.Output.{written_by}
use Rattle.markup_tags.specs.EndTags.{end_tag_line, end_tag_kept}
use Rattle.markup_tags.proofs.end_tags.name_ended.Goals as goal

pub returns-then-is_white_space-clause-moved : goal.returns-then-is_white_space-clause-moved
unfolding end_tag_step end_name_ended end_tag_kept
returns-then-is_white_space-clause-moved c = rw (sym c.if-is_white_space.ensures)

pub returns-then-is_white_space-clause-output : goal.returns-then-is_white_space-clause-output
unfolding end_tag_step end_name_ended end_tag_line encoded written_by
returns-then-is_white_space-clause-output c = rw (sym c.if-is_white_space.ensures)

pub returns-then-c-eq62-clause-moved : goal.returns-then-c-eq62-clause-moved
unfolding end_tag_step end_name_ended end_tag_kept
returns-then-c-eq62-clause-moved c = rw (sym c.if-is_white_space.ensures, eq-eqb c.args.c 62 c.if-c-eq62.true)

pub returns-then-c-eq62-clause-output : goal.returns-then-c-eq62-clause-output
unfolding end_tag_step end_name_ended end_tag_line encoded written_by
returns-then-c-eq62-clause-output c = rw (sym c.if-is_white_space.ensures, eq-eqb c.args.c 62 c.if-c-eq62.true)

pub returns-else-c-eq62-clause-moved : goal.returns-else-c-eq62-clause-moved
unfolding end_tag_step end_name_ended end_tag_kept
returns-else-c-eq62-clause-moved c = rw (sym c.if-is_white_space.ensures, ne_eqb c.args.c 62 c.if-c-eq62.false)

pub returns-else-c-eq62-clause-output : goal.returns-else-c-eq62-clause-output
unfolding end_tag_step end_name_ended end_tag_line encoded written_by
returns-else-c-eq62-clause-output c = rw (sym c.if-is_white_space.ensures, ne_eqb c.args.c 62 c.if-c-eq62.false)
