-- `markup_skipped::comments::inside_step`: a hyphen, another character, or none that is legal.
use mathlib.Core.Path.{◌≡◌, sym, ◌∙◌}
use mathlib.Core.Bool.{true, false}
use borrow.Author.Tests.{ne_eqb}
use Rattle.text.specs.Char.{xml_char}
use Rattle.markup.specs.Automaton.{comment_step}
use Rattle.markup_skipped.proofs.comments.inside_step.Goals as goal

pub returns-then-c-eq45 : goal.returns-then-c-eq45
unfolding comment_step
returns-then-c-eq45 c = rw (c.if-c-eq45.true, c.inside_hyphen.ensures)

pub returns-then-is_xml_char : goal.returns-then-is_xml_char
unfolding comment_step
returns-then-is_xml_char c = let t : xml_char c.args.c ≡ true = sym c.is_xml_char.ensures ∙ c.if-is_xml_char.true in rw (ne_eqb c.args.c 45 c.if-c-eq45.false, t)

pub returns-else-is_xml_char : goal.returns-else-is_xml_char
unfolding comment_step
returns-else-is_xml_char c =
    let t : xml_char c.args.c ≡ false = sym c.is_xml_char.ensures ∙ c.if-is_xml_char.false in
    rw (ne_eqb c.args.c 45 c.if-c-eq45.false, t)
