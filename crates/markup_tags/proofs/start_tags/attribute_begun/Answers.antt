-- `start_tags::attribute_begun`: white space, and a character that begins a name, or not both.
use mathlib.Core.Path.{sym, ◌∙◌}
use mathlib.Core.List.{append-nil}
use Rattle.text.specs.Char.{utf8}
use Rattle.text.specs.Text.{encoded}
use Rattle.text.specs.Escape.{escape}
use Rattle.markup_tags.specs.Output.{written_by}
use Rattle.markup_tags.specs.StartTags.{attrs_line, start_tag_line, start_tag_kept}
use Rattle.base.proofs.Tests.{and_both}
use Rattle.markup.specs.Names.{name_start_char}
use Rattle.markup_tags.proofs.start_tags.attribute_begun.Goals as goal

pub returns-then-begins-clause-moved : goal.returns-then-begins-clause-moved
unfolding start_tag_kept
returns-then-begins-clause-moved c =
    let b = sym (and_both c.args.spaced (name_start_char c.args.c)) ∙ (rw c.is_name_start_char.ensures at c.if-begins.true) in
    rw (b)

pub returns-then-begins-clause-output : goal.returns-then-begins-clause-output
unfolding start_tag_line attrs_line encoded escape written_by
returns-then-begins-clause-output c =
    let b = sym (and_both c.args.spaced (name_start_char c.args.c)) ∙ (rw c.is_name_start_char.ensures at c.if-begins.true) in
    rw (b, append-nil (utf8 c.args.c))

pub returns-else-begins-clause-moved : goal.returns-else-begins-clause-moved
unfolding start_tag_kept
returns-else-begins-clause-moved c =
    let b = sym (and_both c.args.spaced (name_start_char c.args.c)) ∙ (rw c.is_name_start_char.ensures at c.if-begins.false) in
    rw (b)

pub returns-else-begins-clause-output : goal.returns-else-begins-clause-output
unfolding start_tag_line attrs_line encoded escape written_by
returns-else-begins-clause-output c =
    let b = sym (and_both c.args.spaced (name_start_char c.args.c)) ∙ (rw c.is_name_start_char.ensures at c.if-begins.false) in
    rw (b)
