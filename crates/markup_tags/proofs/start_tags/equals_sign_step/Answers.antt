-- `start_tags::equals_sign_step`: white space, a quote mark, or neither.
use mathlib.Core.Path.{sym}
use borrow.Author.Tests.{eq-eqb, ne_eqb}
use Rattle.text.specs.Text.{encoded}
use Rattle.text.specs.Escape.{escape}
use Rattle.markup.specs.Automaton.{start_tag_step}
use Rattle.markup_tags.specs.Output.{written_by}
use Rattle.markup_tags.specs.StartTags.{attrs_line, start_tag_line, start_tag_kept}
use Rattle.markup_tags.proofs.start_tags.equals_sign_step.Goals as goal

pub returns-then-is_white_space-clause-moved : goal.returns-then-is_white_space-clause-moved
unfolding start_tag_step start_tag_kept
returns-then-is_white_space-clause-moved c = rw (sym c.if-is_white_space.ensures)

pub returns-then-is_white_space-clause-output : goal.returns-then-is_white_space-clause-output
unfolding start_tag_step start_tag_line attrs_line encoded escape written_by
returns-then-is_white_space-clause-output c = rw (sym c.if-is_white_space.ensures)

pub returns-then-c-eq34-clause-moved : goal.returns-then-c-eq34-clause-moved
unfolding start_tag_step start_tag_kept
returns-then-c-eq34-clause-moved c = rw (sym c.if-is_white_space.ensures, eq-eqb c.args.c 34 c.if-c-eq34.true)

pub returns-then-c-eq34-clause-output : goal.returns-then-c-eq34-clause-output
unfolding start_tag_step start_tag_line attrs_line encoded escape written_by
returns-then-c-eq34-clause-output c = rw (sym c.if-is_white_space.ensures, eq-eqb c.args.c 34 c.if-c-eq34.true)

pub returns-then-c-eq39-clause-moved : goal.returns-then-c-eq39-clause-moved
unfolding start_tag_step start_tag_kept
returns-then-c-eq39-clause-moved c = rw (sym c.if-is_white_space.ensures, ne_eqb c.args.c 34 c.if-c-eq34.false, eq-eqb c.args.c 39 c.if-c-eq39.true)

pub returns-then-c-eq39-clause-output : goal.returns-then-c-eq39-clause-output
unfolding start_tag_step start_tag_line attrs_line encoded escape written_by
returns-then-c-eq39-clause-output c = rw (sym c.if-is_white_space.ensures, ne_eqb c.args.c 34 c.if-c-eq34.false, eq-eqb c.args.c 39 c.if-c-eq39.true)

pub returns-else-c-eq39-clause-moved : goal.returns-else-c-eq39-clause-moved
unfolding start_tag_step start_tag_kept
returns-else-c-eq39-clause-moved c = rw (sym c.if-is_white_space.ensures, ne_eqb c.args.c 34 c.if-c-eq34.false, ne_eqb c.args.c 39 c.if-c-eq39.false)

pub returns-else-c-eq39-clause-output : goal.returns-else-c-eq39-clause-output
unfolding start_tag_step start_tag_line attrs_line encoded escape written_by
returns-else-c-eq39-clause-output c = rw (sym c.if-is_white_space.ensures, ne_eqb c.args.c 34 c.if-c-eq34.false, ne_eqb c.args.c 39 c.if-c-eq39.false)
