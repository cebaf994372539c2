-- `xml_chars::is_second`: the first bytes that table 3-7 tells apart, and the others.
use native.Mathlib.Omega.{arith}
use borrow.Author.Tests.{ne_eqb}
use Rattle.markup.specs.MarkupBytes.{second_byte}
use Rattle.xml_chars.proofs.is_second.Goals as goal

pub returns-in-224 : goal.returns-in-224
unfolding second_byte
returns-in-224 c = rw c.in-224.is c.in_range.ensures

pub returns-in-237 : goal.returns-in-237
unfolding second_byte
returns-in-237 c = rw c.in-237.is c.in_range-in-237.ensures

pub returns-in-240 : goal.returns-in-240
unfolding second_byte
returns-in-240 c = rw c.in-240.is c.in_range-in-240.ensures

pub returns-in-244 : goal.returns-in-244
unfolding second_byte
returns-in-244 c = rw c.in-244.is c.in_range-in-244.ensures

pub returns-in_default : goal.returns-in_default
unfolding second_byte
returns-in_default c =
    let a = c.args.first in
    rw (ne_eqb a 0xe0 (λ e. omega arith), ne_eqb a 0xf0 (λ e. omega arith), ne_eqb a 0xed (λ e. omega arith), ne_eqb a 0xf4 (λ e. omega arith))
    c.in_range-in_default.ensures
