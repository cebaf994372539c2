-- `xml_chars::in_range`: the test is the definition's.
use Rattle.base.proofs.Tests.{and_both}
use Rattle.text.specs.Char.{from_to}
use Rattle.xml_chars.proofs.in_range.Goals as goal

pub returns : goal.returns
unfolding from_to
returns c = and_both _ _
