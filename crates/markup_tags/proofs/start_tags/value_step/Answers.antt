-- `start_tags::value_step`: the quote mark, a reference, a `<`, a raw character, or none.
use mathlib.Core.Path.{sym, ◌∙◌}
use borrow.Author.Tests.{eq-eqb, ne_eqb}
use Rattle.text.specs.Text.{encoded}
use Rattle.text.specs.Escape.{escape}
use Rattle.markup.specs.Automaton.{start_tag_step, value_step}
use Rattle.markup_tags.specs.Output.{written_by}
use Rattle.markup_tags.specs.StartTags.{attrs_line, start_tag_line, start_tag_kept}
use Rattle.text.specs.Char.{xml_char}
use mathlib.Core.List.{[]}
use lib.Dec.{eqb}
use Rattle.markup.specs.Automaton.{malformed, raw_step}
use Rattle.markup_tags.proofs.Characters.{tested_once}
use Rattle.markup_tags.proofs.start_tags.value_step.Goals as goal

pub returns-then-c-quote-clause-moved : goal.returns-then-c-quote-clause-moved
unfolding start_tag_step value_step start_tag_kept
returns-then-c-quote-clause-moved c = rw (eq-eqb c.args.c _ (c.if-c-quote.true ∙ c.mark_char-quote.ensures))

pub returns-then-c-quote-clause-output : goal.returns-then-c-quote-clause-output
unfolding start_tag_step value_step start_tag_line attrs_line encoded escape written_by
returns-then-c-quote-clause-output c = rw (eq-eqb c.args.c _ (c.if-c-quote.true ∙ c.mark_char-quote.ensures))

pub returns-then-c-eq38-clause-moved : goal.returns-then-c-eq38-clause-moved
unfolding start_tag_step value_step start_tag_kept
returns-then-c-eq38-clause-moved c = rw (ne_eqb c.args.c _ (λ e. c.if-c-quote.false (e ∙ sym c.mark_char-quote.ensures)), eq-eqb c.args.c 38 c.if-c-eq38.true)

pub returns-then-c-eq38-clause-output : goal.returns-then-c-eq38-clause-output
unfolding start_tag_step value_step start_tag_line attrs_line encoded escape written_by
returns-then-c-eq38-clause-output c = rw (ne_eqb c.args.c _ (λ e. c.if-c-quote.false (e ∙ sym c.mark_char-quote.ensures)), eq-eqb c.args.c 38 c.if-c-eq38.true)

pub returns-then-is_value_char-clause-moved : goal.returns-then-is_value_char-clause-moved
unfolding start_tag_step value_step start_tag_kept
returns-then-is_value_char-clause-moved c =
    let q = ne_eqb c.args.c _ (λ e. c.if-c-quote.false (e ∙ sym c.mark_char-quote.ensures)) in
    let a = ne_eqb c.args.c 38 c.if-c-eq38.false in
    rw (q, a, tested_once (eqb c.args.c 60) (xml_char c.args.c) (raw_step c.args.returned [] c.args.c) malformed, sym c.if-is_value_char.ensures) c.raw_step.ensures.moved

pub returns-then-is_value_char-clause-output : goal.returns-then-is_value_char-clause-output
unfolding start_tag_step value_step start_tag_line attrs_line encoded escape written_by
returns-then-is_value_char-clause-output c =
    let q = ne_eqb c.args.c _ (λ e. c.if-c-quote.false (e ∙ sym c.mark_char-quote.ensures)) in
    let a = ne_eqb c.args.c 38 c.if-c-eq38.false in
    rw (q, a, tested_once (eqb c.args.c 60) (xml_char c.args.c) (raw_step c.args.returned [] c.args.c) malformed, sym c.if-is_value_char.ensures) c.raw_step.ensures.output

pub returns-else-is_value_char-clause-moved : goal.returns-else-is_value_char-clause-moved
unfolding start_tag_step value_step start_tag_kept
returns-else-is_value_char-clause-moved c =
    let q = ne_eqb c.args.c _ (λ e. c.if-c-quote.false (e ∙ sym c.mark_char-quote.ensures)) in
    let a = ne_eqb c.args.c 38 c.if-c-eq38.false in
    rw (q, a, tested_once (eqb c.args.c 60) (xml_char c.args.c) (raw_step c.args.returned [] c.args.c) malformed, sym c.if-is_value_char.ensures)

pub returns-else-is_value_char-clause-output : goal.returns-else-is_value_char-clause-output
unfolding start_tag_step value_step start_tag_line attrs_line encoded escape written_by
returns-else-is_value_char-clause-output c =
    let q = ne_eqb c.args.c _ (λ e. c.if-c-quote.false (e ∙ sym c.mark_char-quote.ensures)) in
    let a = ne_eqb c.args.c 38 c.if-c-eq38.false in
    rw (q, a, tested_once (eqb c.args.c 60) (xml_char c.args.c) (raw_step c.args.returned [] c.args.c) malformed, sym c.if-is_value_char.ensures)
