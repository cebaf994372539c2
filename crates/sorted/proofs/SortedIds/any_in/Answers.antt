-- `sorted::SortedIds::any_in` meets its contract.
use Rattle.sorted.specs.Lookup.{ids_of}
use Rattle.sorted.proofs.Lookups.{any_is}
use Rattle.sorted.proofs.SortedIds.any_in.Goals as goal

pub returns : goal.returns
returns c =
    let s = c.args.self.now in
    rw (c.count_below.ensures, c.count_up_to.ensures) (any_is (ids_of s.ids.now) s.rising c.args.first c.args.last)
