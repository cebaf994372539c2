-- Records as the code holds them, in bits: "flags u8, version i32, ..", signed numbers in two's complement.
use Rattle.std.specs.Prelude.{ℕ, ℤ, pos, None, Option, Some}
use Rattle.std.specs.Int.{w32, w64}
use Rattle.std.proofs.Common.{to_z, of_z}
use Rattle.kind.specs.Kind.{of_number}
use Rattle.model.specs.Record.{Meta, Member}
use Rattle.compact.specs.declared.ArenaMeta.{ArenaMeta}
use Rattle.kind.specs.declared.Kind.{Kind}
use Rattle.kind.specs.declared.Kind.TheVariants.{Node, Way, Relation}
use Rattle.compact.specs.declared.PushHead.{PushHead}
use Rattle.compact.specs.declared.CompactNode.{CompactNode}
use Rattle.compact.specs.declared.CompactWay.{CompactWay}
use Rattle.compact.specs.declared.CompactRelation.{CompactRelation}
use Rattle.compact.specs.declared.CompactMember.{CompactMember}
use Rattle.compact.specs.Layout.{Head}

unfoldable pub meta_of : ArenaMeta → Meta ℕ
meta_of m =
    record {
      flags = m.flags;
      version = to_z w32 m.version;
      timestamp = to_z w64 m.timestamp;
      changeset = to_z w64 m.changeset;
      uid = to_z w32 m.uid;
      user = m.user;
    }

-- the same the other way
unfoldable pub meta_bits : Meta ℕ → ArenaMeta
meta_bits m =
    record {
      flags = m.flags;
      version = of_z w32 m.version;
      timestamp = of_z w64 m.timestamp;
      changeset = of_z w64 m.changeset;
      uid = of_z w32 m.uid;
      user = m.user;
    }

unfoldable pub node_head : CompactNode → Head
node_head n = record { id = to_z w64 n.id; lat = to_z w32 n.lat; lon = to_z w32 n.lon; count = 0; tags = n.tag_count }

-- a way's head and a relation's: an id and two counts
unfoldable pub counts_head : ℕ → ℕ → ℕ → Head
counts_head id count tags = record { id = to_z w64 id; lat = pos 0; lon = pos 0; count = count; tags = tags }

unfoldable pub way_head : CompactWay → Head
way_head w = counts_head w.id w.ref_count w.tag_count

unfoldable pub relation_head : CompactRelation → Head
relation_head r = counts_head r.id r.member_count r.tag_count

-- heads the other way: of a node its place, of a way and a relation its count
unfoldable pub node_bits : Head → CompactNode
node_bits h = record { id = of_z w64 h.id; lat = of_z w32 h.lat; lon = of_z w32 h.lon; tag_count = h.tags }

unfoldable pub way_bits : Head → CompactWay
way_bits h = record { id = of_z w64 h.id; ref_count = h.count; tag_count = h.tags }

unfoldable pub relation_bits : Head → CompactRelation
relation_bits h = record { id = of_z w64 h.id; member_count = h.count; tag_count = h.tags }

abbrev pub member_named : ℤ → Option Kind → ℕ → Option (Member ℕ)
member_named ref (Some k) role = Some (record { ref = ref; type = k; role = role })
member_named ref None role = None

-- a member, or none where its type byte names no kind
unfoldable pub member_held : CompactMember → Option (Member ℕ)
member_held m = member_named (to_z w64 m.reference) (of_number m.kind) m.role

-- the head that a direct push gives: a node has a place and no count, a way and a relation a count and no place
unfoldable pub head_in : Kind → PushHead → Head
head_in Node h = node_head (record { id = h.id; lat = h.lat; lon = h.lon; tag_count = h.tags })
head_in Way h = counts_head h.id h.count h.tags
head_in Relation h = counts_head h.id h.count h.tags
