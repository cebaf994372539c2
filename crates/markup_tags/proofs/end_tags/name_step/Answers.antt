-- `end_tags::name_step`: a character of the name, or what is behind it.
use mathlib.Core.Path.{sym}
use mathlib.Core.List.{append-nil}
use Rattle.text.specs.Char.{utf8}
use Rattle.text.specs.Text.{encoded}
use Rattle.markup.specs.Automaton.{end_tag_step}
use Rattle.markup_tags.specs.Output.{written_by}
use Rattle.markup_tags.specs.EndTags.{end_tag_line, end_tag_kept}
use Rattle.markup_tags.proofs.end_tags.name_step.Goals as goal

pub returns-then-is_name_char-clause-moved : goal.returns-then-is_name_char-clause-moved
unfolding end_tag_step end_tag_kept
returns-then-is_name_char-clause-moved c = rw (sym c.if-is_name_char.ensures)

pub returns-then-is_name_char-clause-output : goal.returns-then-is_name_char-clause-output
unfolding end_tag_step end_tag_line encoded written_by
returns-then-is_name_char-clause-output c = rw (sym c.if-is_name_char.ensures, append-nil (utf8 c.args.c))

pub returns-else-is_name_char-clause-moved : goal.returns-else-is_name_char-clause-moved
unfolding end_tag_step end_tag_kept
returns-else-is_name_char-clause-moved c = rw (sym c.if-is_name_char.ensures) c.name_ended.ensures.moved

pub returns-else-is_name_char-clause-output : goal.returns-else-is_name_char-clause-output
unfolding end_tag_step end_tag_line encoded written_by
returns-else-is_name_char-clause-output c = rw (sym c.if-is_name_char.ensures) c.name_ended.ensures.output
