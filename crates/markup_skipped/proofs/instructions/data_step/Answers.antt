-- `markup_skipped::instructions::data_step`: the end, a character of the data, or none that is legal.
use mathlib.Core.Path.{◌≡◌, sym, ◌∙◌}
use mathlib.Core.Bool.{true, false}
use lib.Dec.{eqb}
use Rattle.base.specs.Bytes.{both}
use Rattle.base.proofs.Tests.{and_both}
use Rattle.text.specs.Char.{xml_char}
use Rattle.markup.specs.Automaton.{instruction_step}
use Rattle.markup_skipped.specs.Instructions.{instruction_kept}
use Rattle.markup_skipped.proofs.instructions.data_step.Goals as goal

pub returns-then-question-c : goal.returns-then-question-c
unfolding instruction_step
returns-then-question-c c = let q : both c.args.question (eqb c.args.c 62) ≡ true = sym (and_both _ _) ∙ c.if-question-c.true in rw q

pub returns-then-is_xml_char : goal.returns-then-is_xml_char
unfolding instruction_step instruction_kept
returns-then-is_xml_char c =
    let q : both c.args.question (eqb c.args.c 62) ≡ false = sym (and_both _ _) ∙ c.if-question-c.false in
    let t : xml_char c.args.c ≡ true = sym c.is_xml_char.ensures ∙ c.if-is_xml_char.true in
    rw (q, t)

pub returns-else-is_xml_char : goal.returns-else-is_xml_char
unfolding instruction_step instruction_kept
returns-else-is_xml_char c =
    let q : both c.args.question (eqb c.args.c 62) ≡ false = sym (and_both _ _) ∙ c.if-question-c.false in
    let t : xml_char c.args.c ≡ false = sym c.is_xml_char.ensures ∙ c.if-is_xml_char.false in
    rw (q, t)
