-- Document 01, compact.rs: how a record lies in an arena. "Record heads, then metadata: .. Then refs (i64), or members of 13 bytes ..,
-- then tags". Numbers are little-endian, signed ones in two's complement. Texts are handles here.
use Rattle.std.specs.Prelude.{ℕ, List, [], ◌∷◌, ◌++◌, ℤ, pos, length}
use Rattle.std.specs.Int.{w32, w64}
use Rattle.std.proofs.Common.{of_z}
use Rattle.base.specs.Bytes.{Bytes}
use Rattle.little.specs.Little.{le}
use Rattle.kind.specs.Kind.{kind_number}
use Rattle.kind.specs.declared.Kind.{Kind}
use Rattle.kind.specs.declared.Kind.TheVariants.{Node, Way, Relation}
use Rattle.model.specs.Record.{Meta, Member, Tag, Body, place, refs, members, Record, kind_of}

abbrev pub u32 : ℕ → Bytes
u32 n = le 4 n

abbrev pub i32 : ℤ → Bytes
i32 z = le 4 (of_z w32 z)

abbrev pub i64 : ℤ → Bytes
i64 z = le 8 (of_z w64 z)

-- "Metadata, `META_LEN` 29 bytes: flags u8, version i32, timestamp i64, changeset i64, uid i32, user handle u32."
unfoldable pub meta_bytes : Meta ℕ → Bytes
meta_bytes m = le 1 m.flags ++ i32 m.version ++ i64 m.timestamp ++ i64 m.changeset ++ i32 m.uid ++ u32 m.user

-- "members of 13 bytes (ref i64, type u8 with 0 node, 1 way, 2 relation, role handle u32)"
unfoldable pub member_bytes : Member ℕ → Bytes
member_bytes m = i64 m.ref ++ le 1 (kind_number m.type) ++ u32 m.role

-- "tags (key handle u32, length u32, bytes)"
unfoldable pub tag_bytes : Tag ℕ → Bytes
tag_bytes t = u32 t.key ++ u32 (length t.value) ++ t.value

-- the bytes of each element, one after the other
unfoldable pub joined_bytes : {A : Type 0} → (A → Bytes) → List A → Bytes
joined_bytes f [] = []
joined_bytes f (a ∷ xs) = f a ++ joined_bytes f xs

-- what a head says: an id, a node's place or a count of refs or members, and how many tags
pub record Head : Type 0 where
  pub id : ℤ
  pub lat : ℤ
  pub lon : ℤ
  pub count : ℕ
  pub tags : ℕ

-- "node id i64, lat i32, lon i32, tag count u32; way id, ref count, tag count; relation id, member count, tag count (counts u32)"
unfoldable pub head_bytes : Kind → Head → Bytes
head_bytes Node h = i64 h.id ++ i32 h.lat ++ i32 h.lon ++ u32 h.tags
head_bytes Way h = i64 h.id ++ u32 h.count ++ u32 h.tags
head_bytes Relation h = i64 h.id ++ u32 h.count ++ u32 h.tags

-- how long a head is; with the metadata, `HEADER_LEN`
abbrev pub head_len : Kind → ℕ
head_len Node = 20
head_len Way = 16
head_len Relation = 16

-- the head of a record with so many tags
unfoldable pub head_of : ℤ → Body ℕ → ℕ → Head
head_of id (place lat lon) tags = record { id = id; lat = lat; lon = lon; count = 0; tags = tags }
head_of id (refs rs) tags = record { id = id; lat = pos 0; lon = pos 0; count = length rs; tags = tags }
head_of id (members ms) tags = record { id = id; lat = pos 0; lon = pos 0; count = length ms; tags = tags }

-- refs or members; a node has neither
unfoldable pub body_bytes : Body ℕ → Bytes
body_bytes (place lat lon) = []
body_bytes (refs rs) = joined_bytes i64 rs
body_bytes (members ms) = joined_bytes member_bytes ms

-- what follows the metadata
unfoldable pub parts_bytes : Record ℕ → Bytes
parts_bytes r = body_bytes r.body ++ joined_bytes tag_bytes r.tags

unfoldable pub record_bytes : ℤ → Record ℕ → Bytes
record_bytes id r = head_bytes (kind_of r.body) (head_of id r.body (length r.tags)) ++ meta_bytes r.meta ++ parts_bytes r
