-- sorted.rs: ids in order, a record by its number, and the lookups in lists of ids.
use Rattle.base.specs.Options.{bind}
use Rattle.std.specs.Prelude.{ℕ, suc, ◌+◌, Bool, false, cond, List, [], ◌∷◌, map, drop, ℤ, None, Option, Some, slice_get}
use Rattle.base.specs.Bytes.{Bytes, either}
use Rattle.published.specs.Std.{ElementKind, Node, Way, Relation, is_lt, is_le, eq_z, slice_from, Entry, HashMap, HashSet}
use Rattle.published.specs.OsmId.{OsmIdKey, cmp, osm_id_key, osm_id_cmp, blob_osm_first_key, blob_osm_last_key}
use Rattle.published.specs.Interner.{StringTable}
use Rattle.published.specs.Parse.{KindFields, CompactDiffOverlay}

-- sort_unstable_by(|a, b| osm_id_cmp(a.0, b.0)): any sort; keys differ, so the order of equal ones does not matter
module _ {A : Type 0} (id : A → ℤ) where
  unfoldable pub put_sorted : A → List A → List A
  put_sorted x [] = x ∷ []
  put_sorted x (y ∷ ys) = cond (is_lt (osm_id_cmp (id x) (id y))) (x ∷ y ∷ ys) (y ∷ put_sorted x ys)

  unfoldable pub sort_by_id : List A → List A
  sort_by_id [] = []
  sort_by_id (x ∷ xs) = put_sorted x (sort_by_id xs)

-- pub(crate) struct KindTable
pub record KindTable : Type 0 where
  pub arena : Bytes
  pub ids : List ℤ
  pub offsets : List ℕ
  pub deleted : List ℤ

-- pairs.into_iter().unzip()
abbrev pub build_from : Bytes → List (Entry ℕ) → List ℤ → KindTable
build_from arena pairs deleted =
    record { arena = arena; ids = map (λ (e : Entry ℕ). e.key) pairs; offsets = map (λ (e : Entry ℕ). e.value) pairs; deleted = deleted }

-- fn build(arena: Vec<u8>, index: FxHashMap<i64, usize>, deleted: HashSet<i64>) -> Self
unfoldable pub build : Bytes → HashMap ℕ → HashSet → KindTable
build arena index deleted = build_from arena (sort_by_id (λ (e : Entry ℕ). e.key) index) (sort_by_id (λ x. x) deleted)

-- fn record(&self, i: usize) -> &[u8]: &self.arena[self.offsets[i]..]; none where it panics
unfoldable pub table_record : KindTable → ℕ → Option Bytes
table_record t i = bind (slice_get t.offsets i) (slice_from t.arena)

-- pub(crate) struct SortedDiff
pub record SortedDiff : Type 0 where
  pub nodes : KindTable
  pub ways : KindTable
  pub relations : KindTable
  pub strings : StringTable

-- CompactDiffOverlay::into_sorted(self) (parse.rs)
abbrev pub kind_sorted : KindFields → KindTable
kind_sorted s = build s.arena s.index s.deleted

unfoldable pub into_sorted : CompactDiffOverlay → SortedDiff
into_sorted o = record { nodes = kind_sorted o.nodes; ways = kind_sorted o.ways; relations = kind_sorted o.relations; strings = o.interner.strings }

-- fn kind(&self, kind: ElementKind) -> &KindTable; `upserts(kind)` is its `ids`, `deleted(kind)` its `deleted`
abbrev pub kind_table : SortedDiff → ElementKind → KindTable
kind_table d Node = d.nodes
kind_table d Way = d.ways
kind_table d Relation = d.relations

-- ids.partition_point(p), of a list on whose front part p holds and on whose rest it does not, as of each list in order
unfoldable pub partition_point : (ℤ → Bool) → List ℤ → ℕ
partition_point p [] = 0
partition_point p (x ∷ xs) = cond (p x) (suc (partition_point p xs)) 0

abbrev pub key_at_most : OsmIdKey → Option ℤ → Bool
key_at_most last None = false
key_at_most last (Some id) = is_le (cmp (osm_id_key id) last)

-- the closure `hit` of any_in
unfoldable pub hit : OsmIdKey → OsmIdKey → List ℤ → Bool
hit first last ids = key_at_most last (slice_get ids (partition_point (λ id. is_lt (cmp (osm_id_key id) first)) ids))

-- fn range_overlaps(&self, kind, min_id, max_id) -> bool, of a kind's two lists
unfoldable pub range_overlaps : List ℤ → List ℤ → ℤ → ℤ → Bool
range_overlaps ids deleted min_id max_id =
    either (hit (blob_osm_first_key min_id max_id) (blob_osm_last_key min_id max_id) ids)
    (hit (blob_osm_first_key min_id max_id) (blob_osm_last_key min_id max_id) deleted)

pub record Range : Type 0 where
  pub start : ℕ
  pub end : ℕ

-- fn upsert_range(&self, kind, first, last) -> Range<usize>
unfoldable pub upsert_range : List ℤ → ℤ → OsmIdKey → Range
upsert_range ids first last =
    let start = partition_point (λ id. is_lt (cmp (osm_id_key id) (osm_id_key first))) ids in
    record { start = start; end = partition_point (λ id. is_le (cmp (osm_id_key id) last)) (drop start ids) + start }

-- while *pos < ids.len() && osm_id_cmp(ids[*pos], id).is_lt() { *pos += 1; }, over the ids from pos on
unfoldable pub seek_on : ℕ → List ℤ → ℤ → ℕ
seek_on pos [] id = pos
seek_on pos (x ∷ xs) id = cond (is_lt (osm_id_cmp x id)) (seek_on (suc pos) xs id) pos

-- self.0.get_or_insert_with(..)
abbrev pub seek_start : Option ℕ → List ℤ → ℤ → ℕ
seek_start None ids id = partition_point (λ x. is_lt (osm_id_cmp x id)) ids
seek_start (Some pos) ids id = pos

pub record SeekFound : Type 0 where
  pub seek : Option ℕ
  pub found : Option ℕ

abbrev pub found_at : ℕ → Option ℤ → ℤ → Option ℕ
found_at pos None id = None
found_at pos (Some x) id = cond (eq_z x id) (Some pos) None

-- fn find(&mut self, ids: &[i64], id: i64) -> Option<usize>
unfoldable pub find : Option ℕ → List ℤ → ℤ → SeekFound
find seek ids id =
    let pos = seek_on (seek_start seek ids id) (drop (seek_start seek ids id) ids) id in
    record { seek = Some pos; found = found_at pos (slice_get ids pos) id }
