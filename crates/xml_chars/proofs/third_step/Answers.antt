-- `xml_chars::third_step`: a character begins with the three bytes, or they are one, or neither.
use mathlib.Core.Path.{sym, ◌∙◌}
use mathlib.Core.List.{[], ◌∷◌}
use Rattle.xml_chars.proofs.Steps.{goes_on, ends}
use Rattle.xml_chars.proofs.third_step.Goals as goal

pub returns-then-begins_with_three : goal.returns-then-begins_with_three
returns-then-begins_with_three c =
    sym (goes_on (c.args.a ∷ c.args.b ∷ []) c.args.byte (sym c.begins_with_three.ensures ∙ c.if-begins_with_three.true))

pub returns-else-begins_with_three : goal.returns-else-begins_with_three
returns-else-begins_with_three c =
    c.whole_of_three.ensures ∙ sym (ends (c.args.a ∷ c.args.b ∷ []) c.args.byte (sym c.begins_with_three.ensures ∙ c.if-begins_with_three.false))
