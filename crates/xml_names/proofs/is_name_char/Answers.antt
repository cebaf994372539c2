-- `xml_names::is_name_char`: a character that can begin a name, or one of the others.
use mathlib.Core.Path.{sym, ◌∙◌}
use Rattle.base.specs.Bytes.{either}
use Rattle.xml_names.proofs.Names.{name_goes_on}
use Rattle.xml_names.proofs.is_name_char.Goals as goal

pub returns-then-is_name_start_char : goal.returns-then-is_name_start_char
unfolding either
returns-then-is_name_start_char c =
    let e = sym c.if-is_name_start_char.ensures in c.if-is_name_start_char.true ∙ sym (name_goes_on c.args.c ∙ rw e)

pub returns-else-is_name_start_char : goal.returns-else-is_name_start_char
unfolding either
returns-else-is_name_start_char c =
    let e = sym c.if-is_name_start_char.ensures in c.only_goes_on.ensures ∙ sym (name_goes_on c.args.c ∙ rw e)
