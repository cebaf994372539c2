-- `chars::is_xml_char`: most characters, or one of the others.
use mathlib.Core.Path.{sym, ◌∙◌}
use Rattle.base.specs.Bytes.{either}
use Rattle.markup_tags.proofs.Characters.{char_parts}
use Rattle.markup_tags.proofs.chars.is_xml_char.Goals as goal

pub returns-then-in_range : goal.returns-then-in_range
unfolding either
returns-then-in_range c = let e = sym c.if-in_range.ensures in c.if-in_range.true ∙ sym (char_parts c.args.c ∙ rw e)

pub returns-else-in_range : goal.returns-else-in_range
unfolding either
returns-else-in_range c = let e = sym c.if-in_range.ensures in c.is_other_char.ensures ∙ sym (char_parts c.args.c ∙ rw e)
