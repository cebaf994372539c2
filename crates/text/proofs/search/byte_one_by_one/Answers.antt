-- `text::search::byte_one_by_one`: the loop stops at the first place of the byte, or at the end.
use Rattle.std.proofs.Common.{eqb, sym, arith}
use Rattle.std.proofs.lemmas.List.Sums.{position_or_len_is}
use borrow.Author.Tests.{eq-eqb}
use Rattle.text.proofs.search.byte_one_by_one.Goals as goal

pub returns-else-s-i : goal.returns-else-s-i
returns-else-s-i c =
    sym (position_or_len_is (λ b. eqb b c.args.byte) c.args.s.now c.loop-i.i 0 (omega arith) c.loop-i.invariant.1 (λ l. eq-eqb _ _ c.if-s-i.false))

pub returns-after-loop-i : goal.returns-after-loop-i
returns-after-loop-i c =
    sym (position_or_len_is (λ b. eqb b c.args.byte) c.args.s.now c.loop-i.i 0 (omega arith) c.loop-i.invariant.1 (λ l. absurd (omega arith)))
