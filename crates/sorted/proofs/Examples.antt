-- The trial row of document 01: `range_overlaps` from -5 to 3 with only id -100 live says yes.
use Rattle.std.specs.Prelude.{Ok, true}
use mathlib.Core.Path.{◌≡◌, refl}
use mathlib.Core.List.{[], ◌∷◌}
use lib.IntN.{pos, negsuc}
use Rattle.base.specs.Bytes.{both, either}
use Rattle.osm_id.specs.Order.{osm_key_of, id_key_before, first_key, last_key}
use Rattle.sorted.specs.Lookup.{some, ids_rising_from, in_order, key_within, overlaps, overlap_of}

pub trial : overlap_of (negsuc 99 ∷ []) [] (negsuc 4) (pos 3) ≡ Ok true
unfolding overlap_of overlaps some ids_rising_from in_order key_within osm_key_of id_key_before first_key last_key both either
trial = refl
