-- `is_new`: the string lies within the bytes, the text check takes it, and no handle before it has it.
use mathlib.Core.Path.{◌∙◌}
use native.Mathlib.Nat.{sub-zero}
use Rattle.base.specs.Bytes.{both}
use Rattle.interner.specs.Strings.{find_in}
use Rattle.interner.proofs.Checks.{new_missing, new_found, none_not}
use Rattle.interner.proofs.Texts.is_new.Goals as goal

pub returns-in-None : goal.returns-in-None
returns-in-None c =
    let a = c.args in
    new_missing a.self.now.spans.now a.self.now.bytes.now a.h c.in-None.ensures

pub returns-then-is_text : goal.returns-then-is_text
unfolding find_in both
returns-then-is_text c =
    let a = c.args in
    none_not c.find_from.result c.is_none.result c.is_none.ensures
    ∙ rw (← c.is_text.ensures, c.if-is_text.true, ← (rw sub-zero at c.find_from.ensures)) at
    (new_found a.self.now.spans.now a.self.now.bytes.now a.h c.in-Some.string.now c.in-Some.ensures)

pub returns-else-is_text : goal.returns-else-is_text
unfolding both
returns-else-is_text c =
    let a = c.args in
    c.if-is_text.false
    ∙ rw (← c.is_text.ensures, c.if-is_text.false) at (new_found a.self.now.spans.now a.self.now.bytes.now a.h c.in-Some.string.now c.in-Some.ensures)
