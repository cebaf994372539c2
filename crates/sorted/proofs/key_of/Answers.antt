-- `sorted::key_of` meets its contract.
use mir.Facts.{sfits_to_z, to_z-of_z}
use Rattle.sorted.proofs.key_of.Goals as goal

pub returns : goal.returns
returns c = rw (c.cast_signed.ensures, to_z-of_z (sfits_to_z c.ranges.id)) at c.osm_id_key.ensures
