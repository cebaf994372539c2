use mir.Facts.{to_z-of_z}
use Rattle.torvaskin.proofs.numbers.tvk_blob_osm_last_key.Goals as goal

pub returns : goal.returns
returns c = rw (to_z-of_z c.ranges.min_id, to_z-of_z c.ranges.max_id) at c.blob_osm_last_key.ensures
