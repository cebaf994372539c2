-- `sorted::SortedIds::count_up_to` meets its contract: the place that the library's search finds is the number of the ids before it.
use mathlib.Core.Bool.{true}
use Rattle.std.proofs.Common.{rules}
use Rattle.std.proofs.lemmas.List.Sorted.{IsPartitionPoint-from_clause}
use Rattle.sorted.proofs.Steps.{passes, parted, counted_at}
use Rattle.sorted.proofs.SortedIds.count_up_to.Goals as goal

pub returns : goal.returns
returns c =
    let s = c.args.self.now in
    let k = c.args.key in
    counted_at true k s.ids.now s.rising c.partition_point.result c.partition_point.ensures.bound
    (IsPartitionPoint-from_clause (passes true k s.ids.now s.rising) s.ids.now c.partition_point.result c.partition_point.ensures.partitioned
    (parted true k s.ids.now s.rising) (λ b r q k. search rules))
