-- One kind's list as the code goes about it, row by row. In sound storage it is what the readings by number give (proofs/Numbers, `rows_numbers`).
use Rattle.std.specs.Prelude.{ℕ, min, cond, List, map, leb, length, Ok}
use Rattle.std.specs.Int.{w64}
use Rattle.std.proofs.Common.{to_z, of_z}
use Rattle.kind.specs.declared.Kind.{Kind}
use Rattle.osm_id.specs.Order.{id_of}
use Rattle.version_floor.specs.Version.{word_of}
use Rattle.refusal.specs.declared.Refusal.TheVariants as R
use Rattle.little.specs.Little.{over}
use Rattle.kind_table.specs.declared.Row.{Row}
use Rattle.kind_store.specs.KindStore.{KindStore, known_version}
use Rattle.kind_reading.specs.declared.Side.{Side}
use Rattle.kind_reading.specs.Listed.{rows_read, rows_on}
use Rattle.overlay_ids.specs.Bulk.{AllIds, not_written}

-- the bits of a row's id
abbrev pub row_id : Row → ℕ
row_id r = of_z w64 (id_of r.rank)

-- its known version as a word
abbrev pub row_version : Kind → KindStore → Row → ℕ
row_version k s r = word_of (known_version k s (to_z w64 (row_id r)))

abbrev pub rows_listed : Side → KindStore → List Row
rows_listed side s = rows_on side (rows_read s.table s.ids)

unfoldable pub kind_ids : Kind → Side → KindStore → List ℕ → List ℕ → AllIds
kind_ids k side s ids versions =
    cond (leb (length (rows_listed side s)) (min (length ids) (length versions)))
    (record {
      ids = over ids 0 (map row_id (rows_listed side s));
      versions = over versions 0 (map (row_version k s) (rows_listed side s));
      answer = Ok (length (rows_listed side s));
    })
    (not_written ids versions R.ShortOutput)
