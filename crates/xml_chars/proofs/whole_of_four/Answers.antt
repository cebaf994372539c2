-- `xml_chars::whole_of_four`: four bytes of the form are a character where their code point is legal and not one of fewer bytes, and no others.
use mathlib.Core.Path.{sym, ◌∙◌}
use native.Mathlib.Omega.{arith}
use Rattle.xml_chars.proofs.Whole.{four_taken, four_missed, four_whole, four_none}
use Rattle.xml_chars.proofs.whole_of_four.Goals as goal

pub overflow_sub-a : goal.overflow_sub-a
overflow_sub-a c = (four_taken c.in_range.ensures c.in_range-2.ensures c.in_range-3.ensures c.in_range-4.ensures c.if-in_range.true).first.low

pub joined-requires-clause-byte : goal.joined-requires-clause-byte
joined-requires-clause-byte c = (four_taken c.in_range.ensures c.in_range-2.ensures c.in_range-3.ensures c.in_range-4.ensures c.if-in_range.true).second.low

pub joined-requires-then-in_range-clause-byte : goal.joined-requires-then-in_range-clause-byte
joined-requires-then-in_range-clause-byte c = (four_taken c.in_range.ensures c.in_range-2.ensures c.in_range-3.ensures c.in_range-4.ensures c.if-in_range.true).third.low

pub joined-requires-then-in_range-2-clause-bits : goal.joined-requires-then-in_range-2-clause-bits
joined-requires-then-in_range-2-clause-bits c =
    let w = four_taken c.in_range.ensures c.in_range-2.ensures c.in_range-3.ensures c.in_range-4.ensures c.if-in_range.true in
    omega (arith, c.joined-then-in_range.ensures, c.joined.ensures, c.from.ensures, w.first.high, w.second.high, w.third.high)

pub joined-requires-then-in_range-2-clause-byte : goal.joined-requires-then-in_range-2-clause-byte
joined-requires-then-in_range-2-clause-byte c = (four_taken c.in_range.ensures c.in_range-2.ensures c.in_range-3.ensures c.in_range-4.ensures c.if-in_range.true).fourth.low

pub returns-then-in_range : goal.returns-then-in_range
returns-then-in_range c =
    let a = c.args in
    rw (c.joined-then-in_range-2.ensures, c.joined-then-in_range.ensures, c.joined.ensures, c.from.ensures) at c.completed.ensures
    ∙ sym (four_whole a.a a.b a.c a.d (four_taken c.in_range.ensures c.in_range-2.ensures c.in_range-3.ensures c.in_range-4.ensures c.if-in_range.true))

pub returns-else-in_range : goal.returns-else-in_range
returns-else-in_range c =
    let a = c.args in
    sym (four_none a.a a.b a.c a.d (four_missed c.in_range.ensures c.in_range-2.ensures c.in_range-3.ensures c.in_range-4.ensures c.if-in_range.false))
