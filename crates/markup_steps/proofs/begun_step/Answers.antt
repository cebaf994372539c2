-- `begun_step`: by the first character.
use mathlib.Core.Path.{sym}
use mathlib.Core.List.{append-nil}
use borrow.Author.Tests.{eq-eqb, ne_eqb}
use Rattle.text.specs.Char.{utf8}
use Rattle.text.specs.Text.{encoded}
use Rattle.markup.specs.Automaton.{markup_begun}
use Rattle.markup_tags.specs.Output.{written_by}
use Rattle.markup_tags.specs.StartTags.{start_tag_line, start_tag_kept}
use Rattle.markup_tags.specs.EndTags.{end_tag_line, end_tag_kept}
use Rattle.markup_skipped.specs.Instructions.{instruction_kept}
use Rattle.markup_steps.specs.Held.{markup_line, markup_kept}
use Rattle.markup_steps.proofs.begun_step.Goals as goal

pub returns-then-c-eq47-clause-moved : goal.returns-then-c-eq47-clause-moved
unfolding markup_begun markup_kept end_tag_kept
returns-then-c-eq47-clause-moved c = rw (eq-eqb c.args.c 47 c.if-c-eq47.true)

pub returns-then-c-eq47-clause-output : goal.returns-then-c-eq47-clause-output
unfolding markup_begun markup_line end_tag_line written_by
returns-then-c-eq47-clause-output c = rw (eq-eqb c.args.c 47 c.if-c-eq47.true)

pub returns-then-c-eq33-clause-moved : goal.returns-then-c-eq33-clause-moved
unfolding markup_begun markup_kept
returns-then-c-eq33-clause-moved c = rw (ne_eqb c.args.c 47 c.if-c-eq47.false, eq-eqb c.args.c 33 c.if-c-eq33.true)

pub returns-then-c-eq33-clause-output : goal.returns-then-c-eq33-clause-output
unfolding markup_begun markup_line written_by
returns-then-c-eq33-clause-output c = rw (ne_eqb c.args.c 47 c.if-c-eq47.false, eq-eqb c.args.c 33 c.if-c-eq33.true)

pub returns-then-c-eq63-clause-moved : goal.returns-then-c-eq63-clause-moved
unfolding markup_begun markup_kept instruction_kept
returns-then-c-eq63-clause-moved c = rw (ne_eqb c.args.c 47 c.if-c-eq47.false, ne_eqb c.args.c 33 c.if-c-eq33.false, eq-eqb c.args.c 63 c.if-c-eq63.true)

pub returns-then-c-eq63-clause-output : goal.returns-then-c-eq63-clause-output
unfolding markup_begun markup_line written_by
returns-then-c-eq63-clause-output c = rw (ne_eqb c.args.c 47 c.if-c-eq47.false, ne_eqb c.args.c 33 c.if-c-eq33.false, eq-eqb c.args.c 63 c.if-c-eq63.true)

pub returns-then-is_name_start_char-clause-moved : goal.returns-then-is_name_start_char-clause-moved
unfolding markup_begun markup_kept start_tag_kept
returns-then-is_name_start_char-clause-moved c =
    rw (ne_eqb c.args.c 47 c.if-c-eq47.false, ne_eqb c.args.c 33 c.if-c-eq33.false, ne_eqb c.args.c 63 c.if-c-eq63.false, sym c.if-is_name_start_char.ensures)

pub returns-then-is_name_start_char-clause-output : goal.returns-then-is_name_start_char-clause-output
unfolding markup_begun markup_line start_tag_line encoded written_by
returns-then-is_name_start_char-clause-output c =
    let begins = sym c.if-is_name_start_char.ensures in
    rw (ne_eqb c.args.c 47 c.if-c-eq47.false, ne_eqb c.args.c 33 c.if-c-eq33.false, ne_eqb c.args.c 63 c.if-c-eq63.false, begins, append-nil (utf8 c.args.c))

pub returns-else-is_name_start_char-clause-moved : goal.returns-else-is_name_start_char-clause-moved
unfolding markup_begun
returns-else-is_name_start_char-clause-moved c =
    rw (ne_eqb c.args.c 47 c.if-c-eq47.false, ne_eqb c.args.c 33 c.if-c-eq33.false, ne_eqb c.args.c 63 c.if-c-eq63.false, sym c.if-is_name_start_char.ensures)

pub returns-else-is_name_start_char-clause-output : goal.returns-else-is_name_start_char-clause-output
unfolding markup_begun written_by
returns-else-is_name_start_char-clause-output c =
    rw (ne_eqb c.args.c 47 c.if-c-eq47.false, ne_eqb c.args.c 33 c.if-c-eq33.false, ne_eqb c.args.c 63 c.if-c-eq63.false, sym c.if-is_name_start_char.ensures)
