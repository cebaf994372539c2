-- `xml_chars::second_step`: a character begins with the two bytes, or they are one, or neither.
use mathlib.Core.Path.{sym, ◌∙◌}
use mathlib.Core.List.{[], ◌∷◌}
use Rattle.xml_chars.proofs.Steps.{goes_on, ends}
use Rattle.xml_chars.proofs.second_step.Goals as goal

pub returns-then-begins_with_two : goal.returns-then-begins_with_two
returns-then-begins_with_two c = sym (goes_on (c.args.a ∷ []) c.args.byte (sym c.begins_with_two.ensures ∙ c.if-begins_with_two.true))

pub returns-else-begins_with_two : goal.returns-else-begins_with_two
returns-else-begins_with_two c = c.whole_of_two.ensures ∙ sym (ends (c.args.a ∷ []) c.args.byte (sym c.begins_with_two.ensures ∙ c.if-begins_with_two.false))
