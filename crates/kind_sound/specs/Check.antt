-- The test of `SoundKindStore`, total for any storage. proofs/Decides shows that it holds exactly where the kind store is sound.
use Rattle.std.specs.Prelude.{ℕ, zero, suc, Bool, false, not, cond, List, ltb, leb, eqb, length, take, None, Option, Some}
use Rattle.std.specs.Int.{w64}
use Rattle.std.proofs.Common.{to_z}
use Rattle.base.specs.Bytes.{Bytes, both, either, all}
use Rattle.little.specs.Little.{value_at}
use Rattle.kind.specs.declared.Kind.{Kind}
use Rattle.osm_id.specs.Order.{same_id, id_of}
use Rattle.compact_legal.specs.Judge.{record_end}
use Rattle.compact_legal.specs.Whole.{whole_records}
use Rattle.kind_table.specs.Words.{sound_table, rows_of}
use Rattle.kind_table.specs.declared.Row.{Row}
use Rattle.kind_store.specs.KindStore.{KindStore, is_live}

abbrev pub further : Option ℕ → (ℕ → Bool) → Bool
further (Some e) f = f e
further None f = false

-- a walk from record to record, from `at` on, comes to the offset; each record takes a byte, so the way to the offset is fuel enough
unfoldable pub comes_to : ℕ → Kind → Bytes → ℕ → ℕ → ℕ → Bool
comes_to strings k s offset zero at = eqb at offset
comes_to strings k s offset (suc fuel) at = cond (ltb at offset) (further (record_end strings k s at) (comes_to strings k s offset fuel)) (eqb at offset)

-- the id of a rank stands at the offset
unfoldable pub id_there : Bytes → ℕ → ℕ → Bool
id_there s rank offset = both (ltb offset (length s)) (same_id (to_z w64 (value_at 8 s offset)) (id_of rank))

-- "where a record of that id starts"
unfoldable pub record_there : ℕ → Kind → Bytes → ℕ → ℕ → Bool
record_there strings k s rank offset = both (id_there s rank offset) (comes_to strings k s offset offset 0)

-- "live with an offset where a record of that id starts, or deleted"
unfoldable pub row_passes : ℕ → Kind → Bytes → Row → Bool
row_passes strings k s r = either (not (is_live r.offset)) (record_there strings k s r.rank r.offset)

-- "used bytes whole records ..; known ids strictly in OSM order, each .."
unfoldable pub sound_used : ℕ → Kind → List ℕ → ℕ → Bytes → Bool
sound_used strings k table ids s = both (whole_records strings k s) (both (sound_table table ids) (all (row_passes strings k s) (rows_of table ids)))

-- "counts within lent sizes", then what is used of the arena
unfoldable pub sound_kind_store : ℕ → Kind → KindStore → Bool
sound_kind_store strings k s = both (leb s.used (length s.arena)) (sound_used strings k s.table s.ids (take s.used s.arena))
