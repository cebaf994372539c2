-- `is_at` compares the text with the string, where there is one.
use mathlib.Core.Path.{sym, ◌∙◌}
use Rattle.interner.proofs.Finds.{found_not, at_string, at_missing}
use Rattle.interner.proofs.Texts.is_at.Goals as goal

pub returns-in-Some : goal.returns-in-Some
returns-in-Some c =
    let a = c.args in
    c.equal.ensures ∙ at_string a.self.now.spans.now a.self.now.bytes.now a.text.now a.h c.in-Some.string.now c.in-Some.ensures

pub returns-in-None : goal.returns-in-None
returns-in-None c =
    let a = c.args in
    sym (at_missing a.self.now.spans.now a.self.now.bytes.now a.text.now a.h (found_not a.self.now.spans.now a.self.now.bytes.now a.h c.in-None.ensures))
