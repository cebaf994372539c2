use Rattle.std.proofs.lemmas.List.Sorted.{IsPermutation-trans}
use Rattle.distinct.proofs.Orders.{distinct_sorted}
use Rattle.distinct.proofs.sorted_differ.Goals as goal

pub returns : goal.returns
returns c =
    let w = c.args.words.now in
    rw (distinct_sorted c.args.bytes.now w c.sort_parts.new.words (IsPermutation-trans w c.sort_unstable.new.self c.sort_parts.new.words c.sort_unstable.ensures.permutation c.sort_parts.ensures)) at c.rises.ensures
