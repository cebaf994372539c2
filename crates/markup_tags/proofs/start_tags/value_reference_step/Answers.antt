-- `start_tags::value_reference_step`: what the reference comes to.
use mathlib.Core.Path.{sym}
use mathlib.Core.List.{append-nil}
use Rattle.text.specs.Char.{utf8}
use Rattle.text.specs.Text.{encoded}
use Rattle.text.specs.Escape.{escape}
use Rattle.markup.specs.Automaton.{start_tag_step, value_step}
use Rattle.markup_tags.specs.Output.{written_by}
use Rattle.markup_tags.specs.StartTags.{attrs_line, start_tag_line, start_tag_kept}
use Rattle.markup_tags.proofs.start_tags.value_reference_step.Goals as goal

pub returns-in-Continues-clause-moved : goal.returns-in-Continues-clause-moved
unfolding start_tag_step value_step start_tag_kept
returns-in-Continues-clause-moved c = rw (sym c.in-Continues.ensures)

pub returns-in-Continues-clause-output : goal.returns-in-Continues-clause-output
unfolding start_tag_step value_step start_tag_line attrs_line encoded escape written_by
returns-in-Continues-clause-output c = rw (sym c.in-Continues.ensures)

pub returns-in-Completes-clause-moved : goal.returns-in-Completes-clause-moved
unfolding start_tag_step value_step start_tag_kept
returns-in-Completes-clause-moved c = rw (sym c.in-Completes.ensures)

pub returns-in-Completes-clause-output : goal.returns-in-Completes-clause-output
unfolding start_tag_step value_step start_tag_line attrs_line encoded escape written_by
returns-in-Completes-clause-output c = rw (sym c.in-Completes.ensures, append-nil (utf8 c.in-Completes.referred))

pub returns-in-Malformed-clause-moved : goal.returns-in-Malformed-clause-moved
unfolding start_tag_step value_step start_tag_kept
returns-in-Malformed-clause-moved c = rw (sym c.in-Malformed.ensures)

pub returns-in-Malformed-clause-output : goal.returns-in-Malformed-clause-output
unfolding start_tag_step value_step start_tag_line attrs_line encoded escape written_by
returns-in-Malformed-clause-output c = rw (sym c.in-Malformed.ensures)
