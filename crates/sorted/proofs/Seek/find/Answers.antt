-- `sorted::Seek::find` meets its contract.
use mir.Facts.{to_z-of_z}
use Rattle.sorted.specs.Lookup.{ids_of, found_of}
use Rattle.sorted.proofs.Sorted.{made, not_made}
use Rattle.sorted.proofs.Steps.{up_to_counted}
use Rattle.sorted.proofs.Seeks.{found_is}
use Rattle.sorted.proofs.Seek.find.Goals as goal

pub returns-in_err-ids : goal.returns-in_err-ids
unfolding found_of
returns-in_err-ids c =
    let n = not_made _ c.in_err-ids.ensures c.from_residual.ensures in
    rw (n.0, n.1)

pub returns : goal.returns
returns c =
    let k = c in
    let ids = ids_of k.args.ids.now in
    let m = made _ c.in_ok-ids.ensures in
    let r = rw (m.0, to_z-of_z k.ranges.id) at c.reach-at.ensures in
    let u = up_to_counted k.ranges.id c.osm_id_key.ensures ids (rw m.0 at c.count_up_to.ensures) in
    rw (c.then_some.ensures, u) (found_is ids m.1 k.args.id k.args.self.now.place r)
