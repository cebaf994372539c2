-- `chars::is_value_char`: both tests.
use mathlib.Core.Path.{◌∙◌}
use Rattle.base.proofs.Tests.{and_both}
use Rattle.markup_tags.proofs.Characters.{both_turned}
use Rattle.markup_tags.proofs.chars.is_value_char.Goals as goal

pub returns : goal.returns
returns c = rw c.is_xml_char.ensures (and_both _ _ ∙ both_turned _ _)
