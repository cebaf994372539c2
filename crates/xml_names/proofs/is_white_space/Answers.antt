-- `xml_names::is_white_space`: the test is the definition's.
use Rattle.base.proofs.Tests.{or_either}
use Rattle.xml_names.proofs.Names.{either_regrouped}
use Rattle.markup.specs.Names.{white_space}
use Rattle.xml_names.proofs.is_white_space.Goals as goal

pub returns : goal.returns
unfolding white_space
returns c = simp (or_either, either_regrouped)
