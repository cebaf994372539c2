-- `start_tags::part_ended`: white space, what ends the tag, or an attribute.
use mathlib.Core.Path.{sym}
use borrow.Author.Tests.{eq-eqb, ne_eqb}
use Rattle.text.specs.Text.{encoded}
use Rattle.text.specs.Escape.{escape}
use Rattle.markup.specs.Automaton.{part_ended, start_tag_step}
use Rattle.markup_tags.specs.Output.{written_by}
use Rattle.markup_tags.specs.StartTags.{attrs_line, start_tag_line, start_tag_kept}
use Rattle.markup_tags.proofs.start_tags.part_ended.Goals as goal

pub returns-then-is_white_space-clause-moved : goal.returns-then-is_white_space-clause-moved
unfolding start_tag_step part_ended start_tag_kept
returns-then-is_white_space-clause-moved c = rw (sym c.if-is_white_space.ensures)

pub returns-then-is_white_space-clause-output : goal.returns-then-is_white_space-clause-output
unfolding start_tag_step part_ended start_tag_line attrs_line encoded escape written_by
returns-then-is_white_space-clause-output c = rw (sym c.if-is_white_space.ensures)

pub returns-then-c-eq47-clause-moved : goal.returns-then-c-eq47-clause-moved
unfolding start_tag_step part_ended start_tag_kept
returns-then-c-eq47-clause-moved c = rw (sym c.if-is_white_space.ensures, eq-eqb c.args.c 47 c.if-c-eq47.true)

pub returns-then-c-eq47-clause-output : goal.returns-then-c-eq47-clause-output
unfolding start_tag_step part_ended start_tag_line attrs_line encoded escape written_by
returns-then-c-eq47-clause-output c = rw (sym c.if-is_white_space.ensures, eq-eqb c.args.c 47 c.if-c-eq47.true)

pub returns-then-c-eq62-clause-moved : goal.returns-then-c-eq62-clause-moved
unfolding start_tag_step part_ended start_tag_kept
returns-then-c-eq62-clause-moved c = rw (sym c.if-is_white_space.ensures, ne_eqb c.args.c 47 c.if-c-eq47.false, eq-eqb c.args.c 62 c.if-c-eq62.true)

pub returns-then-c-eq62-clause-output : goal.returns-then-c-eq62-clause-output
unfolding start_tag_step part_ended start_tag_line attrs_line encoded escape written_by
returns-then-c-eq62-clause-output c = rw (sym c.if-is_white_space.ensures, ne_eqb c.args.c 47 c.if-c-eq47.false, eq-eqb c.args.c 62 c.if-c-eq62.true)

pub returns-else-c-eq62-clause-moved : goal.returns-else-c-eq62-clause-moved
unfolding start_tag_step part_ended start_tag_kept
returns-else-c-eq62-clause-moved c =
    let slash = ne_eqb c.args.c 47 c.if-c-eq47.false in
    rw (sym c.if-is_white_space.ensures, slash, ne_eqb c.args.c 62 c.if-c-eq62.false) c.attribute_begun.ensures.moved

pub returns-else-c-eq62-clause-output : goal.returns-else-c-eq62-clause-output
unfolding start_tag_step part_ended start_tag_line attrs_line encoded escape written_by
returns-else-c-eq62-clause-output c =
    let slash = ne_eqb c.args.c 47 c.if-c-eq47.false in
    rw (sym c.if-is_white_space.ensures, slash, ne_eqb c.args.c 62 c.if-c-eq62.false) c.attribute_begun.ensures.output
