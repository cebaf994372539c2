-- `references::hash_step`: the letter of a hexadecimal number, a digit, or neither.
use mathlib.Core.Path.{◌∙◌}
use borrow.Author.Tests.{eq-eqb}
use Rattle.markup.specs.Automaton.{reference_step}
use Rattle.markup_tags.proofs.Digits.{decimal_first, no_decimal_first}
use Rattle.markup_tags.proofs.references.hash_step.Goals as goal

pub returns-then-c-eq120 : goal.returns-then-c-eq120
unfolding reference_step
returns-then-c-eq120 c = rw (eq-eqb c.args.c 120 c.if-c-eq120.true)

pub returns-in-Some : goal.returns-in-Some
returns-in-Some c = (rw c.from.ensures at c.decimal_taken.ensures) ∙ decimal_first c.args.c c.in-Some.digit c.if-c-eq120.false c.in-Some.ensures

pub returns-in-None : goal.returns-in-None
returns-in-None c = no_decimal_first c.args.c c.if-c-eq120.false c.in-None.ensures
