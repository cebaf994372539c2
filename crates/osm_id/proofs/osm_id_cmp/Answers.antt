-- `osm_id::osm_id_cmp` meets its contract: ranks stand in the order of their ids.
use mathlib.Core.Path.{◌∙◌, ap}
use Rattle.signed.proofs.Bits.{bits_back}
use Rattle.osm_id.specs.Order.{rank}
use Rattle.osm_id.proofs.Orders.{rank_cmp}
use Rattle.osm_id.proofs.osm_id_cmp.Goals as goal

pub returns : goal.returns
returns c =
    let k = c.ranges in
    let a = c.rank_of_bits.ensures ∙ ap rank (bits_back k.a c.cast_unsigned.ensures) in
    let b = c.rank_of_bits-2.ensures ∙ ap rank (bits_back k.b c.cast_unsigned-2.ensures) in
    rw (c.cmp.ensures, a, b) (rank_cmp k.a k.b)
