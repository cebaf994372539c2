-- `xml_names::only_goes_on`: the test is the definition's.
use Rattle.base.proofs.Tests.{or_either}
use Rattle.xml_names.proofs.Names.{either_regrouped}
use Rattle.xml_names.specs.Ranges.{name_char_only}
use Rattle.xml_names.proofs.only_goes_on.Goals as goal

pub returns : goal.returns
unfolding name_char_only
returns c = rw (c.in_range.ensures, c.in_range-2.ensures, c.in_range-3.ensures) (simp (or_either, either_regrouped))
