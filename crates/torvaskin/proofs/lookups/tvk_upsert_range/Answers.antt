use mir.Facts.{to_z-of_z}
use Rattle.torvaskin.proofs.lookups.tvk_upsert_range.Goals as goal

pub returns : goal.returns
returns c = rw (c.from.ensures, c.upsert_range.ensures, to_z-of_z c.ranges.first, to_z-of_z c.ranges.last)
