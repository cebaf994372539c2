-- sorted.rs, lookups in lists of ids in order: `range_overlaps`, `upsert_range` ("takes an id for its last key") and `Seek::find`, up to what their callers get.
use Rattle.std.specs.Prelude.{◌≡◌, ℕ, List, ℤ, Ok, Option, Result}
use Rattle.sorted.specs.Lookup.{overlap_of, places_from, range_of, Found, found_of}
use Rattle.refusal.specs.declared.Refusal.{Refusal}
use Rattle.sorted.specs.declared.IdRange.{IdRange}
use Rattle.published.specs.OsmId.{osm_id_key}
use Rattle.published.specs.Sorted.{Range, range_overlaps, upsert_range, find}
use Rattle.published.specs.Sorted as Rust

abbrev pub span_from : Range → Result IdRange Refusal
span_from r = places_from r.start r.end

-- struct Seek(Option<usize>), and its answer
abbrev pub found_from : Rust.SeekFound → Found
found_from s = record { place = s.seek; answer = Ok s.found }

pub record SameLookups (live deleted : List ℤ) : Type 0 where
  pub overlap : (lo hi : ℤ) → overlap_of live deleted lo hi ≡ Ok (range_overlaps live deleted lo hi)
  pub range : (first last : ℤ) → range_of live first last ≡ span_from (upsert_range live first (osm_id_key last))
  pub found : (seek : Option ℕ) (id : ℤ) → found_of seek live id ≡ found_from (find seek live id)
