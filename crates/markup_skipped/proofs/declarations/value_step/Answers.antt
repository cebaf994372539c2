-- `markup_skipped::declarations::value_step`: the quote mark, or a character of the value.
use mathlib.Core.Path.{◌≡◌, sym, ◌∙◌}
use mathlib.Core.Bool.{true, false}
use lib.Dec.{eqb}
use borrow.Author.Tests.{eq-eqb, ne_eqb}
use Rattle.markup.specs.Markup.{mark_char}
use Rattle.markup.specs.Automaton.{declaration_step}
use Rattle.markup_tags.specs.StartTags.{mark_for}
use Rattle.markup_skipped.proofs.declarations.value_step.Goals as goal

pub returns-then-c-mark_char : goal.returns-then-c-mark_char
unfolding declaration_step
returns-then-c-mark_char c =
    let t : eqb c.args.c (mark_char (mark_for c.args.mark)) ≡ true = eq-eqb _ _ (c.if-c-mark_char.true ∙ c.mark_char.ensures) in
    rw t c.value_ended.ensures

pub returns-else-c-mark_char : goal.returns-else-c-mark_char
unfolding declaration_step
returns-else-c-mark_char c =
    let t : eqb c.args.c (mark_char (mark_for c.args.mark)) ≡ false = ne_eqb _ _ (λ e. c.if-c-mark_char.false (e ∙ sym c.mark_char.ensures)) in
    rw t c.value_taken.ensures
