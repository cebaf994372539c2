-- `references::hex_begun_step`: a digit, or none.
use mathlib.Core.Path.{◌∙◌}
use Rattle.markup_tags.proofs.Digits.{hex_first, no_hex_first}
use Rattle.markup_tags.proofs.references.hex_begun_step.Goals as goal

pub returns-in-Some : goal.returns-in-Some
returns-in-Some c = (rw c.from.ensures at c.hex_taken.ensures) ∙ hex_first c.args.c c.in-Some.digit c.in-Some.ensures

pub returns-in-None : goal.returns-in-None
returns-in-None c = no_hex_first c.args.c c.in-None.ensures
