-- `xml_names::starts_in_ascii`: the test is the definition's.
use Rattle.base.proofs.Tests.{or_either}
use Rattle.xml_names.proofs.Names.{either_regrouped}
use Rattle.xml_names.specs.Ranges.{name_start_ascii}
use Rattle.xml_names.proofs.starts_in_ascii.Goals as goal

pub returns : goal.returns
unfolding name_start_ascii
returns c = rw (c.in_range.ensures, c.in_range-2.ensures) (simp (or_either, either_regrouped))
