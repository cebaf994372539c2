-- The Rust's values beside the library's.
use Rattle.std.specs.Prelude.{ℤ, None, Option, Some, Result, Ok, Err}
use Rattle.osm_id.specs.declared.OsmIdKey.{OsmIdKey}
use Rattle.std.specs.declared.cmp.Ordering.{Ordering}
use Rattle.std.specs.declared.cmp.Ordering.TheVariants as O
use Rattle.published.specs.Std as Rust
use Rattle.published.specs.OsmId as OsmId

-- Option<i32>
abbrev pub version : Option ℤ → Option ℤ
version None = None
version (Some v) = Some v

-- Result<(), i32>
abbrev pub admission : Result (Unit {0}) ℤ → Result Unit ℤ
admission (Ok u) = Ok tt
admission (Err v) = Err v

abbrev pub osm_key : OsmId.OsmIdKey → OsmIdKey
osm_key k = record { class = k.class; magnitude = k.magnitude }

abbrev pub ordering : Rust.Ordering → Ordering
ordering Rust.Less = O.Less
ordering Rust.Equal = O.Equal
ordering Rust.Greater = O.Greater
