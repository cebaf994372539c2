-- `references::referred_char`: a character of XML, or another number.
use mathlib.Core.Path.{sym}
use Rattle.markup_tags.proofs.references.referred_char.Goals as goal

pub returns-then-is_xml_char : goal.returns-then-is_xml_char
returns-then-is_xml_char c = rw (sym c.if-is_xml_char.ensures)

pub returns-else-is_xml_char : goal.returns-else-is_xml_char
returns-else-is_xml_char c = rw (sym c.if-is_xml_char.ensures)
