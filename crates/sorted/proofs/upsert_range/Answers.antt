-- `sorted::upsert_range` meets its contract.
use Rattle.sorted.specs.Lookup.{ids_of, range_of}
use Rattle.sorted.proofs.Sorted.{made, not_made}
use Rattle.sorted.proofs.Steps.{smaller_counted, up_to_counted}
use Rattle.sorted.proofs.upsert_range.Goals as goal

pub returns-in_err-ids : goal.returns-in_err-ids
unfolding range_of
returns-in_err-ids c =
    let n = not_made _ c.in_err-ids.ensures c.from_residual.ensures in
    rw (n.0, n.1)

pub returns : goal.returns
unfolding range_of
returns c =
    let k = c in
    let ids = ids_of k.args.ids.now in
    let m = made _ c.in_ok-ids.ensures in
    let e = smaller_counted k.ranges.first c.osm_id_key.ensures ids (rw m.0 at c.count_below-from.ensures) in
    let u = up_to_counted k.ranges.last c.osm_id_key-2.ensures ids (rw m.0 at c.count_up_to-to.ensures) in
    rw (m.1, ← e, ← u, c.max.ensures)
