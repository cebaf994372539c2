-- `chars::is_other_char`: the test is the definition's.
use Rattle.base.proofs.Tests.{or_either}
use Rattle.xml_names.proofs.Names.{either_regrouped}
use Rattle.markup_tags.specs.Characters.{other_char}
use Rattle.markup_tags.proofs.chars.is_other_char.Goals as goal

pub returns : goal.returns
unfolding other_char
returns c = rw (c.in_range.ensures, c.in_range-2.ensures) (simp (or_either, either_regrouped))
