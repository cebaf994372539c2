-- The rank of the id by its bits.
use mathlib.Core.Path.{◌∙◌, ap}
use Rattle.signed.proofs.Bits.{bits_back}
use Rattle.osm_id.specs.Order.{rank}
use Rattle.torvaskin.proofs.numbers.tvk_osm_id_rank.Goals as goal

pub returns : goal.returns
returns c = c.rank_of_bits.ensures ∙ ap rank (bits_back c.ranges.id c.cast_unsigned.ensures)
