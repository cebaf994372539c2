-- The order's number.
use mir.Facts.{to_z-of_z}
use Rattle.torvaskin.proofs.numbers.tvk_osm_id_cmp.Goals as goal

pub returns : goal.returns
returns c = rw (c.order_number.ensures, c.osm_id_cmp.ensures, to_z-of_z c.ranges.a, to_z-of_z c.ranges.b)
