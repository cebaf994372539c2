-- `xml_chars::begins_with_three`: the test is the definition's.
use Rattle.base.proofs.Tests.{and_both}
use Rattle.markup.specs.MarkupBytes.{begins_char}
use Rattle.xml_chars.proofs.Bytes.{both_regrouped}
use Rattle.xml_chars.proofs.begins_with_three.Goals as goal

pub returns : goal.returns
unfolding begins_char
returns c = rw (c.in_range.ensures, c.is_second.ensures, c.in_range-2.ensures) (simp (and_both, both_regrouped))
