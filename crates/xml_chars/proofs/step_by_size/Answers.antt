-- `xml_chars::step_by_size`: no character begins with four bytes.
use mathlib.Core.Path.{sym, ◌∙◌}
use Rattle.xml_chars.proofs.Steps.{fourth_ends}
use Rattle.xml_chars.proofs.step_by_size.Goals as goal

pub returns-in-Three : goal.returns-in-Three
returns-in-Three c = rw c.in-Three.is (c.whole_of_four.ensures ∙ sym (fourth_ends _ _ _ _))
