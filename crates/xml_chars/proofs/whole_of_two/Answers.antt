-- `xml_chars::whole_of_two`: two bytes of the form are a character, and no others.
use mathlib.Core.Path.{sym}
use native.Mathlib.Omega.{arith}
use Rattle.xml_chars.proofs.Whole.{two_taken, two_missed, two_whole, two_none}
use Rattle.xml_chars.proofs.whole_of_two.Goals as goal

pub overflow_sub-a : goal.overflow_sub-a
overflow_sub-a c = let w = (two_taken c.in_range.ensures c.in_range-2.ensures c.if-in_range.true).first in let l = w.low in omega arith

pub joined-requires-clause-byte : goal.joined-requires-clause-byte
joined-requires-clause-byte c = (two_taken c.in_range.ensures c.in_range-2.ensures c.if-in_range.true).second.low

pub returns-then-in_range : goal.returns-then-in_range
returns-then-in_range c =
    rw (c.joined.ensures, c.from.ensures) (sym (two_whole c.args.a c.args.b (two_taken c.in_range.ensures c.in_range-2.ensures c.if-in_range.true)))

pub returns-else-in_range : goal.returns-else-in_range
returns-else-in_range c = sym (two_none c.args.a c.args.b (two_missed c.in_range.ensures c.in_range-2.ensures c.if-in_range.false))
