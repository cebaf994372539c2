-- `references::only_letter`: the letter, or another.
use borrow.Author.Tests.{eq-eqb, ne_eqb}
use Rattle.markup_tags.proofs.references.only_letter.Goals as goal

pub returns-then-c-letter : goal.returns-then-c-letter
returns-then-c-letter c = rw (eq-eqb c.args.c c.args.letter c.if-c-letter.true)

pub returns-else-c-letter : goal.returns-else-c-letter
returns-else-c-letter c = rw (ne_eqb c.args.c c.args.letter c.if-c-letter.false)
