-- `start_tags::raw_step`: the second half of a line end, white space, or another character.
use mathlib.Core.Path.{sym, ◌∙◌}
use mathlib.Core.List.{append-nil}
use Rattle.text.specs.Char.{utf8}
use Rattle.text.specs.Text.{encoded}
use Rattle.text.specs.Escape.{escape}
use Rattle.markup_tags.specs.Output.{written_by}
use Rattle.markup_tags.specs.StartTags.{attrs_line, start_tag_line, start_tag_kept}
use lib.Dec.{eqb}
use Rattle.base.proofs.Tests.{and_both}
use Rattle.markup_tags.proofs.Steps.{black_return}
use Rattle.markup_tags.proofs.start_tags.raw_step.Goals as goal

pub returns-then-feed_behind_return-clause-moved : goal.returns-then-feed_behind_return-clause-moved
unfolding start_tag_kept
returns-then-feed_behind_return-clause-moved c =
    let b = sym (and_both c.args.returned (eqb c.args.c 10)) ∙ c.if-feed_behind_return.true in
    rw (b)

pub returns-then-feed_behind_return-clause-output : goal.returns-then-feed_behind_return-clause-output
unfolding start_tag_line attrs_line encoded escape written_by
returns-then-feed_behind_return-clause-output c =
    let b = sym (and_both c.args.returned (eqb c.args.c 10)) ∙ c.if-feed_behind_return.true in
    rw (b)

pub returns-then-is_white_space-clause-moved : goal.returns-then-is_white_space-clause-moved
unfolding start_tag_kept
returns-then-is_white_space-clause-moved c =
    let b = sym (and_both c.args.returned (eqb c.args.c 10)) ∙ c.if-feed_behind_return.false in
    rw (b)

pub returns-then-is_white_space-clause-output : goal.returns-then-is_white_space-clause-output
unfolding start_tag_line attrs_line encoded escape written_by
returns-then-is_white_space-clause-output c =
    let b = sym (and_both c.args.returned (eqb c.args.c 10)) ∙ c.if-feed_behind_return.false in
    rw (b, sym c.if-is_white_space.ensures, append-nil (utf8 0x20))

pub returns-else-is_white_space-clause-moved : goal.returns-else-is_white_space-clause-moved
unfolding start_tag_kept
returns-else-is_white_space-clause-moved c =
    let b = sym (and_both c.args.returned (eqb c.args.c 10)) ∙ c.if-feed_behind_return.false in
    rw (b, black_return c.args.c (sym c.if-is_white_space.ensures))

pub returns-else-is_white_space-clause-output : goal.returns-else-is_white_space-clause-output
unfolding start_tag_line attrs_line encoded escape written_by
returns-else-is_white_space-clause-output c =
    let b = sym (and_both c.args.returned (eqb c.args.c 10)) ∙ c.if-feed_behind_return.false in
    rw (b, sym c.if-is_white_space.ensures, append-nil (utf8 c.args.c))
