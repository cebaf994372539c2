-- `sorted::SortedIds::reach` meets its contract.
use mathlib.Core.Path.{sym, ◌∙◌}
use Rattle.sorted.specs.Lookup.{ids_of}
use Rattle.sorted.proofs.Steps.{smaller_counted}
use Rattle.sorted.proofs.Seeks.{starts, farther}
use Rattle.sorted.proofs.SortedIds.reach.Goals as goal

pub returns-in-None : goal.returns-in-None
returns-in-None c =
    let s = c.args.self.now in
    let e = smaller_counted c.ranges.id c.osm_id_key.ensures (ids_of s.ids.now) c.count_below-at.ensures in
    rw c.in-None.is (e ∙ sym (starts (ids_of s.ids.now) s.rising c.args.id))

pub returns-in-Some : goal.returns-in-Some
returns-in-Some c =
    let s = c.args.self.now in
    let e = smaller_counted c.ranges.id c.osm_id_key.ensures (ids_of s.ids.now) c.count_below-at.ensures in
    rw (c.in-Some.is, c.max.ensures, e) (farther (ids_of s.ids.now) s.rising c.args.id c.in-Some.p)
