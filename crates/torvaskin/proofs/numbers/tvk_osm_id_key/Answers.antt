use mir.Facts.{to_z-of_z}
use Rattle.torvaskin.proofs.numbers.tvk_osm_id_key.Goals as goal

pub returns : goal.returns
returns c = rw (to_z-of_z c.ranges.id) at c.osm_id_key.ensures
