-- `sorted::SortedIds::count_below` meets its contract: the place that the library's search finds is the number of the ids before it.
use mathlib.Core.Bool.{false}
use Rattle.std.proofs.Common.{rules}
use Rattle.std.proofs.lemmas.List.Sorted.{IsPartitionPoint-from_clause}
use Rattle.sorted.proofs.Steps.{passes, parted, counted_at}
use Rattle.sorted.proofs.SortedIds.count_below.Goals as goal

pub returns : goal.returns
returns c =
    let s = c.args.self.now in
    let k = c.args.key in
    counted_at false k s.ids.now s.rising c.partition_point.result c.partition_point.ensures.bound
    (IsPartitionPoint-from_clause (passes false k s.ids.now s.rising) s.ids.now c.partition_point.result c.partition_point.ensures.partitioned
    (parted false k s.ids.now s.rising) (λ b r q k. search rules))
