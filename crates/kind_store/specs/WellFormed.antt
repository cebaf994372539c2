-- What the laws of acts ask of a kind store: less than soundness, which names what each record holds.
use Rattle.std.specs.Prelude.{ℕ, ◌+◌, ◌^◌, ◌<◌, ◌≤◌, ◌≡◌, true, List, length, Some}
use Rattle.base.specs.Bytes.{all}
use Rattle.little.specs.Little.{is_byte}
use Rattle.kind.specs.declared.Kind.{Kind}
use Rattle.compact.specs.Layout.{head_len}
use Rattle.kind_table.specs.declared.Row.{Row}
use Rattle.kind_table.specs.Rows.{find}
use Rattle.kind_table.specs.Words.{rows_of, sound_table}
use Rattle.kind_store.specs.KindStore.{KindStore, is_live}

abbrev pub rows_in : KindStore → List Row
rows_in s = rows_of s.table s.ids

pub record WellFormed (k : Kind) (s : KindStore) : Type 0 where
  -- the arena is bytes, and shorter than the first offset that means "deleted"
  pub bytes : all is_byte s.arena ≡ true
  pub short : length s.arena < 2 ^ 63
  -- "known ids strictly in OSM order"
  pub sound : sound_table s.table s.ids ≡ true
  -- the head and the metadata of each live record lie within the used bytes
  pub offsets : (n : ℕ) (r : Row) → find n (rows_in s) ≡ Some r → is_live r.offset ≡ true → r.offset + (head_len k + 29) ≤ s.used
