-- `xml_chars::whole_of_three`: three bytes of the form are a character where their code point is legal and not one of fewer bytes, and no others.
use mathlib.Core.Path.{sym, ◌∙◌}
use Rattle.xml_chars.proofs.Whole.{three_taken, three_missed, three_whole, three_none}
use Rattle.xml_chars.proofs.whole_of_three.Goals as goal

pub overflow_sub-a : goal.overflow_sub-a
overflow_sub-a c = (three_taken c.in_range.ensures c.in_range-2.ensures c.in_range-3.ensures c.if-in_range.true).first.low

pub joined-requires-clause-byte : goal.joined-requires-clause-byte
joined-requires-clause-byte c = (three_taken c.in_range.ensures c.in_range-2.ensures c.in_range-3.ensures c.if-in_range.true).second.low

pub joined-requires-then-in_range-clause-byte : goal.joined-requires-then-in_range-clause-byte
joined-requires-then-in_range-clause-byte c = (three_taken c.in_range.ensures c.in_range-2.ensures c.in_range-3.ensures c.if-in_range.true).third.low

pub returns-then-in_range : goal.returns-then-in_range
returns-then-in_range c =
    let a = c.args in
    rw (c.joined-then-in_range.ensures, c.joined.ensures, c.from.ensures) at c.completed.ensures
    ∙ sym (three_whole a.a a.b a.c (three_taken c.in_range.ensures c.in_range-2.ensures c.in_range-3.ensures c.if-in_range.true))

pub returns-else-in_range : goal.returns-else-in_range
returns-else-in_range c = sym (three_none c.args.a c.args.b c.args.c (three_missed c.in_range.ensures c.in_range-2.ensures c.in_range-3.ensures c.if-in_range.false))
