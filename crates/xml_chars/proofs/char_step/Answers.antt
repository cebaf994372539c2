-- `xml_chars::char_step`: a character of ASCII from the blank on, with nothing before it.
use mathlib.Core.Path.{sym, ◌∙◌}
use Rattle.base.proofs.Split.{clash}
use Rattle.xml_chars.proofs.Bytes.{left_holds, right_holds}
use Rattle.xml_chars.proofs.Steps.{first_printable}
use Rattle.xml_chars.proofs.char_step.Goals.{in-None, in_default}
use Rattle.xml_chars.proofs.char_step.Goals as goal

pub returns-then-matches-in_range : goal.returns-then-matches-in_range
returns-then-matches-in_range c =
    let h = c.if-matches-in_range.true in
    elim c.match-matches.branch [
      | in-None w ↦ rw (c.from.ensures, w.in-None.is) (sym (first_printable c.args.byte (sym c.in_range.ensures ∙ right_holds _ _ h)))
      | in_default w ↦ clash (left_holds _ _ h) w.matches-is
    ]
