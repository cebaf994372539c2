-- `xml_names::starts_beyond`: the test is the definition's.
use Rattle.base.proofs.Tests.{or_either}
use Rattle.xml_names.proofs.Names.{either_regrouped}
use Rattle.xml_names.specs.Ranges.{name_start_beyond}
use Rattle.xml_names.proofs.starts_beyond.Goals as goal

pub returns : goal.returns
unfolding name_start_beyond
returns c =
    rw
    (c.in_range.ensures, c.in_range-2.ensures, c.in_range-3.ensures, c.in_range-4.ensures, c.in_range-5.ensures, c.in_range-6.ensures, c.in_range-7.ensures, c.in_range-8.ensures, c.in_range-9.ensures, c.in_range-10.ensures, c.in_range-11.ensures, c.in_range-12.ensures)
    (simp (or_either, either_regrouped))
