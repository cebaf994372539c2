-- parse.rs: `CompactDiffOverlay`. Its fields of one kind stand together, and what push_* and delete_* do to them is written once: the three of each differ in the kind's fields and in
-- the append alone. Left out: files, sizes on the heap, and the iterators over a map's keys, whose order is the map's own (`node_ids`, `deleted_ids`).
use Rattle.base.specs.Options.{bind}
use Rattle.std.specs.Prelude.{ℕ, Bool, true, false, cond, List, [], ◌∷◌, ◌++◌, length, ℤ, None, Option, Some, Result, Ok, Err}
use Rattle.base.specs.Bytes.{Bytes, both}
use Rattle.published.specs.Std.{map_ok, ElementKind, Node, Way, Relation, max_z, slice_from, HashMap, get, insert, remove, HashSet, contains, insert_into, remove_from}
use Rattle.published.specs.VersionFloor.{admit}
use Rattle.published.specs.VersionFloor as VersionFloor
use Rattle.published.specs.Interner.{StringInterner}
use Rattle.published.specs.Interner as Interner
use Rattle.published.specs.Compact.{ArenaMeta, TagPart, MemberPart, META_OFF, version_claim, version_at, arena_append_node, arena_append_way, arena_append_relation}

-- node_arena, node_index, deleted_nodes, node_version_floors; and the same of ways and of relations
pub record KindFields : Type 0 where
  pub arena : Bytes
  pub index : HashMap ℕ
  pub deleted : HashSet
  pub floors : HashMap ℤ

abbrev pub no_fields : KindFields
no_fields = record { arena = []; index = []; deleted = []; floors = [] }

-- pub struct CompactDiffOverlay
pub record CompactDiffOverlay : Type 0 where
  pub nodes : KindFields
  pub ways : KindFields
  pub relations : KindFields
  pub interner : StringInterner
  pub allow_version_regression : Bool

-- CompactDiffOverlay::new()
abbrev pub new : CompactDiffOverlay
new = record { nodes = no_fields; ways = no_fields; relations = no_fields; interner = Interner.new; allow_version_regression = false }

-- the fields of a kind, and the overlay with others
abbrev pub fields_of_element : CompactDiffOverlay → ElementKind → KindFields
fields_of_element o Node = o.nodes
fields_of_element o Way = o.ways
fields_of_element o Relation = o.relations

abbrev pub with_fields_of_element : CompactDiffOverlay → ElementKind → KindFields → CompactDiffOverlay
with_fields_of_element o Node s = record { nodes = s; ways = o.ways; relations = o.relations; interner = o.interner; allow_version_regression = o.allow_version_regression }
with_fields_of_element o Way s = record { nodes = o.nodes; ways = s; relations = o.relations; interner = o.interner; allow_version_regression = o.allow_version_regression }
with_fields_of_element o Relation s = record { nodes = o.nodes; ways = o.ways; relations = s; interner = o.interner; allow_version_regression = o.allow_version_regression }

abbrev pub with_interner : CompactDiffOverlay → StringInterner → CompactDiffOverlay
with_interner o i = record { nodes = o.nodes; ways = o.ways; relations = o.relations; interner = i; allow_version_regression = o.allow_version_regression }

-- fn allow_version_regression(&mut self, allow: bool)
abbrev pub allow : CompactDiffOverlay → Bool → CompactDiffOverlay
allow o b = record { nodes = o.nodes; ways = o.ways; relations = o.relations; interner = o.interner; allow_version_regression = b }

-- fn intern(&mut self, s: &str) -> ParseResult<u32>: what it leaves, and what it answers
abbrev pub intern_in : CompactDiffOverlay → Bytes → CompactDiffOverlay
intern_in o t = with_interner o (Interner.intern o.interner t).interner

abbrev pub handle_in_overlay : CompactDiffOverlay → Bytes → ℕ
handle_in_overlay o t = (Interner.intern o.interner t).id

-- ---- reads

-- fn get_node, get_way, get_relation (&self, id: i64): the data of the accessor, &arena[offset..]; none too where it panics
unfoldable pub get_data : KindFields → ℤ → Option Bytes
get_data s id = bind (get s.index id) (slice_from s.arena)

-- self.index.contains_key(&id)
abbrev pub is_some : {A : Type 0} → Option A → Bool
is_some None = false
is_some (Some a) = true

-- fn has_node, has_way, has_relation (&self, id: i64) -> bool
unfoldable pub has : KindFields → ℤ → Bool
has s id = is_some (get s.index id)

-- fn is_deleted(&self, kind: ElementKind, id: i64) -> bool
unfoldable pub is_deleted : KindFields → ℤ → Bool
is_deleted s id = contains s.deleted id

-- self.node_index.is_empty(), self.deleted_nodes.is_empty()
abbrev pub no_entries : {A : Type 0} → List A → Bool
no_entries [] = true
no_entries (e ∷ m) = false

abbrev pub no_ids_of : KindFields → Bool
no_ids_of s = both (no_entries s.index) (no_entries s.deleted)

-- fn is_empty(&self) -> bool
unfoldable pub is_empty : CompactDiffOverlay → Bool
is_empty o = both (no_ids_of o.nodes) (both (no_ids_of o.ways) (no_ids_of o.relations))

-- ---- the version gate
-- .and_then(|&offset| version_at(self.arena, offset, self.meta_off))
abbrev pub live_version : ℕ → Bytes → Option ℕ → Option ℤ
live_version meta_off arena None = None
live_version meta_off arena (Some offset) = version_at arena offset meta_off

-- match (live, dead) { (Some(a), Some(b)) => Some(a.max(b)), (a, b) => a.or(b) }
unfoldable pub max_or : Option ℤ → Option ℤ → Option ℤ
max_or (Some a) (Some b) = Some (max_z a b)
max_or (Some a) None = Some a
max_or None b = b

-- fn stored_version(&self, id: i64) -> Option<i32>
unfoldable pub stored_version : ℕ → KindFields → ℤ → Option ℤ
stored_version meta_off s id = max_or (live_version meta_off s.arena (get s.index id)) (get s.floors id)

-- fn check_version_advance(&self, kind, id, store, incoming_version) -> ParseResult<()>; the error carries `stored`
unfoldable pub check_version_advance : Bool → ℕ → KindFields → ℤ → ℤ → Result (Unit {0}) ℤ
check_version_advance allow meta_off s id incoming = cond allow (Ok tt) (admit (VersionFloor.new (stored_version meta_off s id)) (Some incoming))

-- floors.entry(id).and_modify(|v| *v = (*v).max(highest)).or_insert(highest);
abbrev pub modified : Option ℤ → ℤ → ℤ
modified None highest = highest
modified (Some v) highest = max_z v highest

-- fn raise_floor(floors, id, carried: Option<i32>, meta: &ArenaMeta), given meta.version_claim()
unfoldable pub raise_floor : HashMap ℤ → ℤ → Option ℤ → Option ℤ → HashMap ℤ
raise_floor floors id (Some a) (Some b) = insert floors id (modified (get floors id) (max_z a b))
raise_floor floors id (Some a) None = insert floors id (modified (get floors id) a)
raise_floor floors id None (Some a) = insert floors id (modified (get floors id) a)
raise_floor floors id None None = floors

-- let offset = arena_append_..(..)?; self.index.insert(id, offset); self.deleted.remove(&id);
abbrev pub appended : KindFields → HashMap ℤ → ℤ → Bytes → KindFields
appended s floors id bytes =
    record { arena = s.arena ++ bytes; index = insert s.index id (length s.arena); deleted = remove_from s.deleted id; floors = floors }

-- `?`: nothing was changed before it
abbrev pub after_check : {A : Type 0} → Result (Unit {0}) ℤ → A → Result A ℤ
after_check (Ok u) s = Ok s
after_check (Err e) s = Err e

-- push_node, push_way, push_relation, given meta.version_claim() and the bytes that the append writes
abbrev pub push_with : Bool → ℕ → KindFields → ℤ → Bytes → Option ℤ → Result KindFields ℤ
push_with allow meta_off s id bytes (Some claim) = after_check (check_version_advance allow meta_off s id claim) (appended s s.floors id bytes)
push_with allow meta_off s id bytes None =
    Ok (appended s (cond allow s.floors (raise_floor s.floors id (stored_version meta_off s id) None)) id bytes)

unfoldable pub push : Bool → ℕ → KindFields → ℤ → Bytes → ArenaMeta → Result KindFields ℤ
push allow meta_off s id bytes meta = push_with allow meta_off s id bytes (version_claim meta)

-- let carried = ..stored_version(id); raise_floor(..); self.deleted.insert(id); self.index.remove(&id);
abbrev pub marked_deleted : ℕ → KindFields → ℤ → Option ℤ → KindFields
marked_deleted meta_off s id claim =
    record {
      arena = s.arena;
      index = remove s.index id;
      deleted = insert_into s.deleted id;
      floors = raise_floor s.floors id (stored_version meta_off s id) claim;
    }

-- delete_node, delete_way, delete_relation, given meta.version_claim()
abbrev pub delete_with : Bool → ℕ → KindFields → ℤ → Option ℤ → Result KindFields ℤ
delete_with allow meta_off s id (Some claim) = after_check (check_version_advance allow meta_off s id claim) (marked_deleted meta_off s id (Some claim))
delete_with allow meta_off s id None = Ok (marked_deleted meta_off s id None)

unfoldable pub delete : Bool → ℕ → KindFields → ℤ → ArenaMeta → Result KindFields ℤ
delete allow meta_off s id meta = delete_with allow meta_off s id (version_claim meta)

-- ---- the overlay's own

-- fn push_node(&mut self, id, lat, lon, tags, meta) -> ParseResult<()>
unfoldable pub push_node : CompactDiffOverlay → ℤ → ℤ → ℤ → List TagPart → ArenaMeta → Result CompactDiffOverlay ℤ
push_node o id lat lon tags meta =
    map_ok (with_fields_of_element o Node)
    (push o.allow_version_regression (META_OFF Node) o.nodes id (arena_append_node id lat lon tags meta) meta)

-- fn push_way(&mut self, id, refs, tags, meta) -> ParseResult<()>
unfoldable pub push_way : CompactDiffOverlay → ℤ → List ℤ → List TagPart → ArenaMeta → Result CompactDiffOverlay ℤ
push_way o id refs tags meta =
    map_ok (with_fields_of_element o Way)
    (push o.allow_version_regression (META_OFF Way) o.ways id (arena_append_way id refs tags meta) meta)

-- fn push_relation(&mut self, id, members, tags, meta) -> ParseResult<()>
unfoldable pub push_relation : CompactDiffOverlay → ℤ → List MemberPart → List TagPart → ArenaMeta → Result CompactDiffOverlay ℤ
push_relation o id members tags meta =
    map_ok (with_fields_of_element o Relation)
    (push o.allow_version_regression (META_OFF Relation) o.relations id (arena_append_relation id members tags meta) meta)

-- fn delete_node, delete_way, delete_relation (&mut self, id: i64, meta: &ArenaMeta) -> ParseResult<()>, by the kind
unfoldable pub delete_kind : CompactDiffOverlay → ElementKind → ℤ → ArenaMeta → Result CompactDiffOverlay ℤ
delete_kind o kind id meta = map_ok (with_fields_of_element o kind) (delete o.allow_version_regression (META_OFF kind) (fields_of_element o kind) id meta)
