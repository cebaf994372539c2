-- compact.rs: how records lie in an arena, and what its iterators and accessors read of one. The refusals of counts past 2^32 are left out: no call of the domain has such a count.
-- Where a reader panics, an index or a slice outside of the bytes or `arena_invariant_broken`, it is none here.
use Rattle.base.specs.Options.{bind}
use Rattle.std.specs.Prelude.{ℕ, zero, suc, ◌+◌, ◌-◌, ◌*◌, ◌/◌, ◌%◌, Bool, cond, List, [], ◌∷◌, ◌++◌, length, ℤ, ◌==◌, None, Option, Some, option_map}
use Rattle.std.specs.Int.{w32, w64}
use Rattle.std.proofs.Common.{of_z, to_z}
use Rattle.base.specs.Bytes.{Bytes}
use Rattle.published.specs.Std.{ElementKind, Node, Way, Relation, to_le, from_le, index, slice}
use Rattle.published.specs.Interner.{StringTable, resolve}

-- to_le_bytes() of an i64, an i32, a u32
abbrev pub i64 : ℤ → Bytes
i64 z = to_le 8 (of_z w64 z)

abbrev pub i32 : ℤ → Bytes
i32 z = to_le 4 (of_z w32 z)

abbrev pub u32 : ℕ → Bytes
u32 n = to_le 4 n

-- fn read_i64_le, read_i32_le, read_u32_le (data: &[u8], offset: usize)
abbrev pub read_i64_le : Bytes → ℕ → Option ℤ
read_i64_le s offset = option_map (λ bytes. to_z w64 (from_le bytes)) (slice s offset 8)

abbrev pub read_i32_le : Bytes → ℕ → Option ℤ
read_i32_le s offset = option_map (λ bytes. to_z w32 (from_le bytes)) (slice s offset 4)

abbrev pub read_u32_le : Bytes → ℕ → Option ℕ
read_u32_le s offset = option_map from_le (slice s offset 4)

-- fn member_type_to_byte(mt: MemberType) -> ParseResult<u8>; `ParsedMember::member_type` makes no MemberType::Unknown, so a MemberType is an ElementKind here
abbrev pub member_type_to_byte : ElementKind → ℕ
member_type_to_byte Node = 0
member_type_to_byte Way = 1
member_type_to_byte Relation = 2

-- fn byte_to_member_type(b: u8) -> MemberType
unfoldable pub byte_to_member_type : ℕ → Option ElementKind
byte_to_member_type b = cond (b == 0) (Some Node) (cond (b == 1) (Some Way) (cond (b == 2) (Some Relation) None))

-- ---- the metadata block

-- struct ArenaMeta
pub record ArenaMeta : Type 0 where
  pub flags : ℕ
  pub version : ℤ
  pub timestamp : ℤ
  pub changeset : ℤ
  pub uid : ℤ
  pub user_id : ℕ

abbrev pub M_VERSION : ℕ
M_VERSION = 1

abbrev pub M_TIMESTAMP : ℕ
M_TIMESTAMP = M_VERSION + 4

abbrev pub M_CHANGESET : ℕ
M_CHANGESET = M_TIMESTAMP + 8

abbrev pub M_UID : ℕ
M_UID = M_CHANGESET + 8

abbrev pub M_USER_ID : ℕ
M_USER_ID = M_UID + 4

abbrev pub META_LEN : ℕ
META_LEN = M_USER_ID + 4

abbrev pub META_FLAG_PRESENT : ℕ
META_FLAG_PRESENT = 1

abbrev pub META_FLAG_HIDDEN : ℕ
META_FLAG_HIDDEN = 2

abbrev pub META_FLAG_HAS_USER : ℕ
META_FLAG_HAS_USER = 4

abbrev pub META_FLAG_HAS_VERSION : ℕ
META_FLAG_HAS_VERSION = 8

-- flags & bit == 0, for a bit that is a power of two
unfoldable pub clear : ℕ → ℕ → Bool
clear flags bit = flags / bit % 2 == 0

-- fn version_claim(&self) -> Option<i32>
unfoldable pub version_claim : ArenaMeta → Option ℤ
version_claim m = cond (clear m.flags META_FLAG_HAS_VERSION) None (Some m.version)

abbrev pub NODE_META_OFF : ℕ
NODE_META_OFF = 8 + 4 + 4 + 4

abbrev pub WAY_META_OFF : ℕ
WAY_META_OFF = 8 + 4 + 4

abbrev pub RELATION_META_OFF : ℕ
RELATION_META_OFF = 8 + 4 + 4

-- fn version_at(data: &[u8], record_offset: usize, meta_off: usize) -> Option<i32>; none too where it panics
unfoldable pub version_at : Bytes → ℕ → ℕ → Option ℤ
version_at s offset meta_off =
    bind (index s (offset + meta_off)) (λ flags. cond (clear flags META_FLAG_HAS_VERSION) None (read_i32_le s (offset + meta_off + M_VERSION)))

-- fn arena_append_meta(arena: &mut Vec<u8>, meta: &ArenaMeta)
unfoldable pub arena_append_meta : ArenaMeta → Bytes
arena_append_meta m = (m.flags % 256) ∷ i32 m.version ++ i64 m.timestamp ++ i64 m.changeset ++ i32 m.uid ++ u32 m.user_id

-- struct Metadata (block_builder)
pub record Metadata : Type 0 where
  pub version : ℤ
  pub timestamp : ℤ
  pub changeset : ℤ
  pub uid : ℤ
  pub user : Bytes
  pub visible : Bool

-- if flags & META_FLAG_HAS_USER != 0 { strings.resolve(..) } else { "" }
abbrev pub read_user : StringTable → Bytes → ℕ → ℕ → Option Bytes
read_user strings s offset flags = cond (clear flags META_FLAG_HAS_USER) (Some []) (bind (read_u32_le s (offset + M_USER_ID)) (resolve strings))

-- fn read_meta(data, offset, strings) -> Option<Metadata>
unfoldable pub read_meta : StringTable → Bytes → ℕ → Option (Option Metadata)
read_meta strings s offset =
    bind (index s offset) (λ flags.
    cond (clear flags META_FLAG_PRESENT) (Some None)
    (bind (read_i32_le s (offset + M_VERSION)) (λ version.
    bind (read_i64_le s (offset + M_TIMESTAMP)) (λ timestamp.
    bind (read_i64_le s (offset + M_CHANGESET)) (λ changeset.
    bind (read_i32_le s (offset + M_UID)) (λ uid.
    bind (read_user strings s offset flags) (λ user.
    Some (Some (record { version = version; timestamp = timestamp; changeset = changeset; uid = uid; user = user; visible = clear flags META_FLAG_HIDDEN })))))))))

-- ---- appends

-- tags: &[(u32, &str)], members: &[(i64, u8, u32)]
pub record TagPart : Type 0 where
  pub key_id : ℕ
  pub value : Bytes

pub record MemberPart : Type 0 where
  pub ref_id : ℤ
  pub type_byte : ℕ
  pub role_id : ℕ

-- fn append_tags
unfoldable pub append_tags : List TagPart → Bytes
append_tags [] = []
append_tags (t ∷ ts) = u32 t.key_id ++ u32 (length t.value) ++ t.value ++ append_tags ts

unfoldable pub refs_appended : List ℤ → Bytes
refs_appended [] = []
refs_appended (r ∷ rs) = i64 r ++ refs_appended rs

unfoldable pub members_appended : List MemberPart → Bytes
members_appended [] = []
members_appended (m ∷ ms) = i64 m.ref_id ++ (m.type_byte % 256) ∷ u32 m.role_id ++ members_appended ms

-- what arena_append_node, arena_append_way, arena_append_relation append; each returns the arena's length before
unfoldable pub arena_append_node : ℤ → ℤ → ℤ → List TagPart → ArenaMeta → Bytes
arena_append_node id lat lon tags meta = i64 id ++ i32 lat ++ i32 lon ++ u32 (length tags) ++ arena_append_meta meta ++ append_tags tags

unfoldable pub arena_append_way : ℤ → List ℤ → List TagPart → ArenaMeta → Bytes
arena_append_way id refs tags meta = i64 id ++ u32 (length refs) ++ u32 (length tags) ++ arena_append_meta meta ++ refs_appended refs ++ append_tags tags

unfoldable pub arena_append_relation : ℤ → List MemberPart → List TagPart → ArenaMeta → Bytes
arena_append_relation id members tags meta =
    i64 id ++ u32 (length members) ++ u32 (length tags) ++ arena_append_meta meta ++ members_appended members ++ append_tags tags

-- ---- iterators

-- struct CompactTagIter, CompactRefIter, CompactMemberIter: the data and the strings do not change
pub record Iter : Type 0 where
  pub offset : ℕ
  pub remaining : ℕ

-- what `next` answers, and the iterator as it leaves it
pub record Yielded (A : Type 0) : Type 0 where
  pub item : A
  pub iter : Iter

abbrev pub yielded : {A : Type 0} → A → ℕ → ℕ → Option (Option (Yielded A))
yielded a offset remaining = Some (Some (record { item = a; iter = record { offset = offset; remaining = remaining } }))

-- if self.remaining == 0 { return None; } self.remaining -= 1;
abbrev pub unless_done : {A : Type 0} → Iter → Option (Option (Yielded A)) → Option (Option (Yielded A))
unless_done i x = cond (i.remaining == 0) (Some None) x

-- CompactRefIter: fn next(&mut self) -> Option<i64>
unfoldable pub ref_next : Bytes → Iter → Option (Option (Yielded ℤ))
ref_next s i = unless_done i (bind (read_i64_le s i.offset) (λ val. yielded val (i.offset + 8) (i.remaining - 1)))

-- (MemberType, i64, &str)
pub record MemberItem : Type 0 where
  pub member_type : ElementKind
  pub ref_id : ℤ
  pub role : Bytes

-- CompactMemberIter: fn next(&mut self) -> Option<(MemberType, i64, &str)>
unfoldable pub member_next : StringTable → Bytes → Iter → Option (Option (Yielded MemberItem))
member_next strings s i =
    unless_done i (
    bind (read_i64_le s i.offset) (λ ref_id.
    bind (index s (i.offset + 8)) (λ type_byte.
    bind (read_u32_le s (i.offset + 8 + 1)) (λ role_id.
    bind (byte_to_member_type type_byte) (λ member_type.
    bind (resolve strings role_id) (λ role.
    yielded (record { member_type = member_type; ref_id = ref_id; role = role }) (i.offset + 8 + 1 + 4) (i.remaining - 1)))))))

-- (&str, &str)
pub record Tag : Type 0 where
  pub k : Bytes
  pub v : Bytes

-- CompactTagIter: fn next(&mut self) -> Option<(&str, &str)>, given Rust's std::str::from_utf8
unfoldable pub tag_next : (Bytes → Bool) → StringTable → Bytes → Iter → Option (Option (Yielded Tag))
tag_next from_utf8 strings s i =
    unless_done i (
    bind (read_u32_le s i.offset) (λ key_id.
    bind (read_u32_le s (i.offset + 4)) (λ value_len.
    bind (slice s (i.offset + 4 + 4) value_len) (λ value.
    bind (resolve strings key_id) (λ key.
    cond (from_utf8 value) (yielded (record { k = key; v = value }) (i.offset + 4 + 4 + value_len) (i.remaining - 1)) None)))))

-- iter.collect(): the items in order; `size_hint` says how many there are
abbrev pub onward : {A : Type 0} → Option (Option (Yielded A)) → (Iter → Option (List A)) → Option (List A)
onward None more = None
onward (Some None) more = Some []
onward (Some (Some y)) more = option_map (y.item ∷◌) (more y.iter)

unfoldable pub collect_from : {A : Type 0} → (Iter → Option (Option (Yielded A))) → ℕ → Iter → Option (List A)
collect_from next zero i = onward (next i) (λ j. None)
collect_from next (suc n) i = onward (next i) (collect_from next n)

unfoldable pub collect : {A : Type 0} → (Iter → Option (Option (Yielded A))) → Iter → Option (List A)
collect next i = collect_from next i.remaining i

-- ---- accessors: CompactNodeRef, CompactWayRef, CompactRelationRef, each the data from the record's offset on, and the strings

abbrev pub HEADER_LEN : ElementKind → ℕ
HEADER_LEN Node = NODE_META_OFF + META_LEN
HEADER_LEN Way = WAY_META_OFF + META_LEN
HEADER_LEN Relation = RELATION_META_OFF + META_LEN

abbrev pub META_OFF : ElementKind → ℕ
META_OFF Node = NODE_META_OFF
META_OFF Way = WAY_META_OFF
META_OFF Relation = RELATION_META_OFF

abbrev pub MEMBER_SIZE : ℕ
MEMBER_SIZE = 13

-- fn id(&self), of each kind
abbrev pub record_id : Bytes → Option ℤ
record_id s = read_i64_le s 0

-- CompactNodeRef: fn decimicro_lat(&self), decimicro_lon(&self)
abbrev pub decimicro_lat : Bytes → Option ℤ
decimicro_lat s = read_i32_le s 8

abbrev pub decimicro_lon : Bytes → Option ℤ
decimicro_lon s = read_i32_le s 12

-- CompactWayRef: fn ref_count(&self); CompactRelationRef: fn member_count(&self)
abbrev pub ref_count : Bytes → Option ℕ
ref_count s = read_u32_le s 8

abbrev pub member_count : Bytes → Option ℕ
member_count s = read_u32_le s 8

-- fn tag_count(&self)
abbrev pub tag_count : ElementKind → Bytes → Option ℕ
tag_count Node s = read_u32_le s 16
tag_count Way s = read_u32_le s 12
tag_count Relation s = read_u32_le s 12

-- fn metadata(&self)
abbrev pub metadata : ElementKind → StringTable → Bytes → Option (Option Metadata)
metadata kind strings s = read_meta strings s (META_OFF kind)

-- fn refs(&self), collected
abbrev pub refs : Bytes → Option (List ℤ)
refs s = bind (ref_count s) (λ n. collect (ref_next s) (record { offset = HEADER_LEN Way; remaining = n }))

-- fn members(&self), collected
abbrev pub members : StringTable → Bytes → Option (List MemberItem)
members strings s = bind (member_count s) (λ n. collect (member_next strings s) (record { offset = HEADER_LEN Relation; remaining = n }))

-- let tag_offset = ..
abbrev pub tag_offset : ElementKind → Bytes → Option ℕ
tag_offset Node s = Some (HEADER_LEN Node)
tag_offset Way s = option_map (λ n. HEADER_LEN Way + n * 8) (ref_count s)
tag_offset Relation s = option_map (λ n. HEADER_LEN Relation + n * MEMBER_SIZE) (member_count s)

-- fn tags(&self), collected
abbrev pub tags : (Bytes → Bool) → ElementKind → StringTable → Bytes → Option (List Tag)
tags from_utf8 kind strings s =
    bind (tag_offset kind s) (λ offset. bind (tag_count kind s) (λ n. collect (tag_next from_utf8 strings s) (record { offset = offset; remaining = n })))
