-- compact.rs: what is appended for a record is the library's record bytes.
use Rattle.std.specs.Prelude.{Result}
use Rattle.std.proofs.Common.{◌≡◌, ℕ, zero, suc, ◌/◌, List, [], ◌∷◌, ◌++◌, map, length, ℤ, refl, ap, append_assoc, append-nil, w32, w64, of_z}
use lib.ListN.{length-map}
use Rattle.little.specs.Little.{le}
use Rattle.model.specs.Record.{Meta, Member, Tag, Body, place, refs, members, Record, kind_of}
use Rattle.compact.specs.Layout.{meta_bytes, member_bytes, tag_bytes, joined_bytes, head_bytes, head_of, body_bytes, parts_bytes, record_bytes}
use Rattle.base.specs.Bytes.{Bytes}
use Rattle.published.specs.Std.{to_le}
use Rattle.published.specs.Compact.{ArenaMeta, TagPart, arena_append_node, arena_append_way, arena_append_relation}
use Rattle.published.specs.Compact as C
use Rattle.published.specs.Parse.{CompactDiffOverlay, push_node, push_way, push_relation}
use Rattle.refines.specs.Overlays.{arena_meta, tag_part, member_part, refs_in, members_in}

-- push_node, push_way or push_relation of a record
abbrev pub push_body : CompactDiffOverlay → ℤ → Body ℕ → List TagPart → ArenaMeta → Result CompactDiffOverlay ℤ
push_body o id (place lat lon) tags meta = push_node o id lat lon tags meta
push_body o id (refs rs) tags meta = push_way o id rs tags meta
push_body o id (members ms) tags meta = push_relation o id (map member_part ms) tags meta

abbrev pub push_record : CompactDiffOverlay → ℤ → Record ℕ → Result CompactDiffOverlay ℤ
push_record o id r = push_body o id r.body (map tag_part r.tags) (arena_meta r.meta)

-- what it appends
abbrev pub body_appended : ℤ → Body ℕ → List TagPart → ArenaMeta → Bytes
body_appended id (place lat lon) tags meta = arena_append_node id lat lon tags meta
body_appended id (refs rs) tags meta = arena_append_way id rs tags meta
body_appended id (members ms) tags meta = arena_append_relation id (map member_part ms) tags meta

abbrev pub record_appended : ℤ → Record ℕ → Bytes
record_appended id r = body_appended id r.body (map tag_part r.tags) (arena_meta r.meta)

pub same_le : (n v : ℕ) → to_le n v ≡ le n v
unfolding to_le le
same_le zero v = refl
same_le (suc n) v = rw (same_le n (v / 256))

same_i64 : (z : ℤ) → C.i64 z ≡ le 8 (of_z w64 z)
same_i64 z = same_le 8 (of_z w64 z)

pub same_meta : (m : Meta ℕ) → C.arena_append_meta (arena_meta m) ≡ meta_bytes m
unfolding C.arena_append_meta meta_bytes le
same_meta m = rw (same_le 4 (of_z w32 m.version), same_le 8 (of_z w64 m.timestamp), same_le 8 (of_z w64 m.changeset), same_le 4 (of_z w32 m.uid), same_le 4 m.user)

same_tags : (ts : List (Tag ℕ)) → C.append_tags (map tag_part ts) ≡ joined_bytes tag_bytes ts
unfolding C.append_tags joined_bytes tag_bytes
same_tags [] = refl
same_tags (t ∷ ts) = rw (same_tags ts, same_le 4 t.key, same_le 4 (length t.value)) (simp append_assoc)

same_refs : (rs : List ℤ) → C.refs_appended rs ≡ joined_bytes (λ z. le 8 (of_z w64 z)) rs
unfolding C.refs_appended joined_bytes
same_refs [] = refl
same_refs (z ∷ rs) = rw (same_refs rs, same_le 8 (of_z w64 z))

same_members : (ms : List (Member ℕ)) → C.members_appended (map member_part ms) ≡ joined_bytes member_bytes ms
unfolding C.members_appended joined_bytes member_bytes le
same_members [] = refl
same_members (m ∷ ms) = rw (same_members ms, same_le 8 (of_z w64 m.ref), same_le 4 m.role)

body_bytes_lem : (id : ℤ) (b : Body ℕ) (tags : List (Tag ℕ)) (m : Meta ℕ)
    → body_appended id b (map tag_part tags) (arena_meta m) ≡ head_bytes (kind_of b) (head_of id b (length tags)) ++ meta_bytes m ++ (body_bytes b ++ joined_bytes tag_bytes tags)
unfolding C.arena_append_node C.arena_append_way C.arena_append_relation head_bytes head_of body_bytes
body_bytes_lem id (place lat lon) tags m =
    rw (length-map tags tag_part, same_meta m, same_tags tags, same_le 8 (of_z w64 id), same_le 4 (of_z w32 lat), same_le 4 (of_z w32 lon), same_le 4 (length tags)) (simp append_assoc)
body_bytes_lem id (refs rs) tags m =
    rw (length-map tags tag_part, same_meta m, same_tags tags, same_refs rs, same_le 8 (of_z w64 id), same_le 4 (length rs), same_le 4 (length tags)) (simp append_assoc)
body_bytes_lem id (members ms) tags m =
    rw (length-map tags tag_part, length-map ms member_part, same_meta m, same_tags tags, same_members ms, same_le 8 (of_z w64 id), same_le 4 (length ms), same_le 4 (length tags)) (simp append_assoc)

pub same_bytes : (id : ℤ) (r : Record ℕ) → record_appended id r ≡ record_bytes id r
unfolding record_bytes parts_bytes
same_bytes id r = body_bytes_lem id r.body r.tags r.meta

same_body : (b : Body ℕ) → C.refs_appended (refs_in b) ++ C.members_appended (map member_part (members_in b)) ≡ body_bytes b
unfolding body_bytes C.refs_appended C.members_appended
same_body (place lat lon) = refl
same_body (refs rs) = rw (append-nil, same_refs rs)
same_body (members ms) = same_members ms

-- refs, members and tags as they lie in the parts of a direct push
pub same_parts : (r : Record ℕ) → C.refs_appended (refs_in r.body) ++ C.members_appended (map member_part (members_in r.body)) ++ C.append_tags (map tag_part r.tags) ≡ parts_bytes r
unfolding parts_bytes
same_parts r = rw (same_tags r.tags) (ap (λ (x : Bytes). x ++ joined_bytes tag_bytes r.tags) (same_body r.body))
