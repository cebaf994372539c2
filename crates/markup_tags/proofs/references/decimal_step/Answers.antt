-- `references::decimal_step`: a semicolon, a digit, or neither.
use mathlib.Core.Path.{◌∙◌}
use borrow.Author.Tests.{eq-eqb}
use Rattle.markup.specs.Automaton.{reference_step}
use Rattle.markup_tags.proofs.Digits.{decimal_more, no_decimal_more}
use Rattle.markup_tags.proofs.references.decimal_step.Goals as goal

pub returns-then-c-eq59 : goal.returns-then-c-eq59
unfolding reference_step
returns-then-c-eq59 c = rw (eq-eqb c.args.c 59 c.if-c-eq59.true) c.referred_char.ensures

pub returns-in-Some : goal.returns-in-Some
returns-in-Some c = (rw (c.from.ensures, c.from-in-Some.ensures) at c.decimal_taken.ensures) ∙ decimal_more c.args.c c.in-Some.digit c.args.v c.if-c-eq59.false c.in-Some.ensures

pub returns-in-None : goal.returns-in-None
returns-in-None c = no_decimal_more c.args.c c.args.v c.if-c-eq59.false c.in-None.ensures
