-- The C boundary of a record's bytes: each answer's number and values, by one definition each.
use Rattle.std.specs.Prelude.{ℕ, Err, None, Ok, Result, Some}
use Rattle.kind.specs.Kind.{kind_number}
use Rattle.kind.specs.declared.Kind.{Kind}
use Rattle.kind.specs.declared.Kind.TheVariants.{Node, Way, Relation}
use Rattle.refusal.specs.Refusal.{number_of}
use Rattle.refusal.specs.declared.Refusal.{Refusal}
use Rattle.compact.specs.declared.ArenaMeta.{ArenaMeta}
use Rattle.compact.specs.declared.CompactNode.{CompactNode}
use Rattle.compact.specs.declared.CompactRelation.{CompactRelation}
use Rattle.compact.specs.declared.CompactWay.{CompactWay}
use Rattle.compact.specs.declared.PushHead.{PushHead}
use Rattle.compact.specs.View.{tags_at, RefStep, MemberStep, TagStep}
use Rattle.c_replies.specs.declared.HeadReply.{HeadReply}
use Rattle.c_replies.specs.declared.MetaReply.{MetaReply}
use Rattle.c_replies.specs.declared.RefReply.{RefReply}
use Rattle.c_replies.specs.declared.MemberReply.{MemberReply}
use Rattle.c_replies.specs.declared.TagReply.{TagReply}

-- ---- the head

-- 0 with a kind's head, where its refs or members begin, and where its tags do
abbrev pub head_told : Kind → PushHead → HeadReply
head_told k h = record { number = 0; head = h; parts_at = tags_at k 0; tags_at = tags_at k h.count }

-- the refusal with zeros
abbrev pub refused_head : Refusal → HeadReply
refused_head r = record { number = number_of r; head = record { id = 0; lat = 0; lon = 0; count = 0; tags = 0 }; parts_at = 0; tags_at = 0 }

-- a node has a place and no count, a way and a relation a count and no place
abbrev pub node_reply : Result CompactNode Refusal → HeadReply
node_reply (Ok n) = head_told Node (record { id = n.id; lat = n.lat; lon = n.lon; count = 0; tags = n.tag_count })
node_reply (Err r) = refused_head r

abbrev pub way_reply : Result CompactWay Refusal → HeadReply
way_reply (Ok w) = head_told Way (record { id = w.id; lat = 0; lon = 0; count = w.ref_count; tags = w.tag_count })
way_reply (Err r) = refused_head r

abbrev pub relation_reply : Result CompactRelation Refusal → HeadReply
relation_reply (Ok l) = head_told Relation (record { id = l.id; lat = 0; lon = 0; count = l.member_count; tags = l.tag_count })
relation_reply (Err r) = refused_head r

-- ---- the metadata

abbrev pub meta_reply : Result ArenaMeta Refusal → MetaReply
meta_reply (Ok m) = record { number = 0; meta = m }
meta_reply (Err r) = record { number = number_of r; meta = record { flags = 0; version = 0; timestamp = 0; changeset = 0; uid = 0; user = 0 } }

-- ---- the steps: 0 and found 1 with what stands there, 0 and found 0 where none remains, or the refusal

abbrev pub no_ref : ℕ → RefReply
no_ref n = record { number = n; found = 0; value = 0; next = 0 }

abbrev pub ref_reply : RefStep → RefReply
ref_reply (Ok (Some p)) = record { number = 0; found = 1; value = p.value; next = p.next }
ref_reply (Ok None) = no_ref 0
ref_reply (Err r) = no_ref (number_of r)

abbrev pub no_member : ℕ → MemberReply
no_member n = record { number = n; found = 0; reference = 0; kind = 0; role = 0; next = 0 }

abbrev pub member_reply : MemberStep → MemberReply
member_reply (Ok (Some p)) = record { number = 0; found = 1; reference = p.reference; kind = kind_number p.kind; role = p.role; next = p.next }
member_reply (Ok None) = no_member 0
member_reply (Err r) = no_member (number_of r)

abbrev pub no_tag : ℕ → TagReply
no_tag n = record { number = n; found = 0; key = 0; start = 0; len = 0 }

abbrev pub tag_reply : TagStep → TagReply
tag_reply (Ok (Some p)) = record { number = 0; found = 1; key = p.key; start = p.start; len = p.len }
tag_reply (Ok None) = no_tag 0
tag_reply (Err r) = no_tag (number_of r)
