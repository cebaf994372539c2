-- The rank of the bits that are read.
use mathlib.Core.Path.{◌∙◌, ap}
use mir.Facts.{sfits_to_z, Fits-of_lt}
use mir.Val.{to_z}
use mir.Syntax.{w64}
use Rattle.osm_id.specs.Order.{rank, id_of}
use Rattle.osm_id.proofs.Orders.{id_rank}
use Rattle.kind_sound.proofs.rank_there.Goals as goal

pub returns : goal.returns
returns c =
    let s = sfits_to_z {w = w64} (Fits-of_lt c.get_u64.type_inv) in
    let v = ap (to_z w64) c.get_u64.ensures in
    let r = c.rank_of_bits.ensures in
    (r ∙ ap rank v, ap id_of r ∙ (id_rank s ∙ v))
