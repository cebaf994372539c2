-- `start_tags::attribute_name_step`: a character of the name, or what is behind it.
use mathlib.Core.Path.{sym, ◌∙◌}
use mathlib.Core.List.{append-nil}
use Rattle.text.specs.Char.{utf8}
use Rattle.text.specs.Text.{encoded}
use Rattle.text.specs.Escape.{escape}
use Rattle.markup.specs.Automaton.{start_tag_step}
use Rattle.markup_tags.specs.Output.{written_by}
use Rattle.markup_tags.specs.StartTags.{attrs_line, start_tag_line, start_tag_kept}
use Rattle.markup_tags.proofs.Steps.{name_ended_grown}
use Rattle.markup_tags.proofs.start_tags.attribute_name_step.Goals as goal

pub returns-then-is_name_char-clause-moved : goal.returns-then-is_name_char-clause-moved
unfolding start_tag_step start_tag_kept
returns-then-is_name_char-clause-moved c = rw (sym c.if-is_name_char.ensures)

pub returns-then-is_name_char-clause-output : goal.returns-then-is_name_char-clause-output
unfolding start_tag_step start_tag_line attrs_line encoded escape written_by
returns-then-is_name_char-clause-output c = rw (sym c.if-is_name_char.ensures, append-nil (utf8 c.args.c))

pub returns-else-is_name_char-clause-moved : goal.returns-else-is_name_char-clause-moved
unfolding start_tag_step start_tag_kept
returns-else-is_name_char-clause-moved c = rw (sym c.if-is_name_char.ensures) c.attribute_name_ended.ensures.moved

pub returns-else-is_name_char-clause-output : goal.returns-else-is_name_char-clause-output
unfolding start_tag_step written_by
returns-else-is_name_char-clause-output c = rw (sym c.if-is_name_char.ensures) (c.attribute_name_ended.ensures.output ∙ name_ended_grown c.args.c)
