-- `xml_chars::is_begun`: number of bytes by number of bytes.
use Rattle.markup.specs.MarkupBytes.{begins_char}
use Rattle.xml_chars.specs.Chars.{begun}
use Rattle.xml_chars.proofs.is_begun.Goals as goal

pub returns-in-None : goal.returns-in-None
unfolding begun
returns-in-None c = rw c.in-None.is

pub returns-in-One : goal.returns-in-One
unfolding begun begins_char
returns-in-One c = rw c.in-One.is c.in_range.ensures

pub returns-in-Two : goal.returns-in-Two
unfolding begun
returns-in-Two c = rw c.in-Two.is c.begins_with_two.ensures

pub returns-in-Three : goal.returns-in-Three
unfolding begun
returns-in-Three c = rw c.in-Three.is c.begins_with_three.ensures
