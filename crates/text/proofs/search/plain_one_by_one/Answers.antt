-- `text::search::plain_one_by_one`: the loop stops at the first byte that is not plain, or at the end.
use Rattle.std.proofs.Common.{not, sym, ap, ◌∙◌, arith}
use Rattle.std.proofs.lemmas.List.Sums.{position_or_len_is}
use Rattle.text.specs.Check.{is_plain}
use Rattle.text.proofs.search.plain_one_by_one.Goals as goal

pub returns-else-is_plain : goal.returns-else-is_plain
returns-else-is_plain c =
    sym (position_or_len_is (λ b. not (is_plain b)) c.args.s.now c.loop-i.i 0 (omega arith) c.loop-i.invariant.1 (λ l. ap not (sym c.is_plain.ensures ∙ c.if-is_plain.false)))

pub returns-after-loop-i : goal.returns-after-loop-i
returns-after-loop-i c =
    sym (position_or_len_is (λ b. not (is_plain b)) c.args.s.now c.loop-i.i 0 (omega arith) c.loop-i.invariant.1 (λ l. absurd (omega arith)))
