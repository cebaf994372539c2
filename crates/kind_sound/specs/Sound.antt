-- Document 01, "Sound", of one kind: "counts within lent sizes; .. each arena's used bytes whole records that pass 3, 10, 16, 17, end to end; ..
-- known ids strictly in OSM order, each live with an offset where a record of that id starts, or deleted".
use Rattle.std.specs.Prelude.{ℕ, ◌≤◌, ◌≡◌, Bool, true, not, List, length, take}
use Rattle.base.specs.Bytes.{either, all}
use Rattle.kind.specs.declared.Kind.{Kind}
use Rattle.osm_id.specs.Order.{id_of}
use Rattle.compact.specs.Cut.{KeptRecord}
use Rattle.compact_legal.specs.Whole.{Whole, starts_at}
use Rattle.kind_table.specs.Words.{sound_table, rows_of}
use Rattle.kind_table.specs.declared.Row.{Row}
use Rattle.kind_store.specs.KindStore.{KindStore, is_live}

-- a known id is "live with an offset where a record of that id starts, or deleted"
unfoldable pub sound_row : List KeptRecord → Row → Bool
sound_row kept r = either (not (is_live r.offset)) (starts_at (id_of r.rank) r.offset kept)

-- what is lent for one kind is sound, given how many strings are held
pub record SoundKindStore (strings : ℕ) (k : Kind) (s : KindStore) : Type 0 where
  pub fits : s.used ≤ length s.arena
  pub whole : Whole strings k (take s.used s.arena)
  pub order : sound_table s.table s.ids ≡ true
  pub rows : all (sound_row whole.kept) (rows_of s.table s.ids) ≡ true
