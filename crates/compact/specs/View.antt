-- What is read of a record's bytes: each field at the place that the layout gives it, for the library's own code; and a user's readers and steps.
use Rattle.refusal.specs.declared.Refusal.TheVariants.{Unsound}
use Rattle.refusal.specs.declared.Refusal.{Refusal}
use Rattle.base.specs.Options.{bind}
use Rattle.std.specs.Prelude.{ℕ, zero, suc, ◌+◌, ◌-◌, ◌*◌, cond, List, [], ◌∷◌, eqb, ℤ, length, take, drop, Err, None, Ok, Option, Result, Some, option_map}
use Rattle.std.specs.Int.{w64}
use Rattle.std.proofs.Common.{to_z, of_z}
use Rattle.base.specs.Bytes.{Bytes}
use Rattle.little.specs.Little.{value_at}
use Rattle.text.specs.Check.{is_text}
use Rattle.refusal.specs.Refusal.{number_of}
use Rattle.refusal.specs.declared.Refusal.TheVariants as refused
use Rattle.kind.specs.declared.Kind.{Kind}
use Rattle.kind.specs.declared.Kind.TheVariants.{Node, Way, Relation}
use Rattle.model.specs.Record.{Meta, Member, Tag, Body, place, refs, members}
use Rattle.compact.specs.declared.ArenaMeta.{ArenaMeta}
use Rattle.compact.specs.declared.CompactNode.{CompactNode}
use Rattle.compact.specs.declared.CompactWay.{CompactWay}
use Rattle.compact.specs.declared.CompactRelation.{CompactRelation}
use Rattle.compact.specs.declared.CompactMember.{CompactMember}
use Rattle.compact.specs.declared.RefPart.{RefPart}
use Rattle.compact.specs.declared.MemberPart.{MemberPart}
use Rattle.compact.specs.declared.TagPart.{TagPart}
use Rattle.compact.specs.Layout.{Head, head_len}
use Rattle.compact.specs.Cut.{Cut, then_cut, found, cut_i64, cut_meta, cut_member, cut_tag, cut_head, KeptRecord}
use Rattle.compact.specs.Held.{meta_of, meta_bits, node_head, way_head, relation_head, node_bits, way_bits, relation_bits}

-- ---- fields at their places, for the library's own code on bytes that it has checked: bytes that are missing read as 0. A user gets the readers below.

-- "node id i64, lat i32, lon i32, tag count u32; way id, ref count, tag count; relation id, member count, tag count (counts u32)"

unfoldable pub node_at : Bytes → CompactNode
node_at s = record { id = value_at 8 s 0; lat = value_at 4 s 8; lon = value_at 4 s 12; tag_count = value_at 4 s 16 }

unfoldable pub way_at : Bytes → CompactWay
way_at s = record { id = value_at 8 s 0; ref_count = value_at 4 s 8; tag_count = value_at 4 s 12 }

unfoldable pub relation_at : Bytes → CompactRelation
relation_at s = record { id = value_at 8 s 0; member_count = value_at 4 s 8; tag_count = value_at 4 s 12 }

-- the metadata from a place on: "flags u8, version i32, timestamp i64, changeset i64, uid i32, user handle u32"
unfoldable pub meta_at : Bytes → ℕ → ArenaMeta
meta_at s at =
    record {
      flags = value_at 1 s at;
      version = value_at 4 s (at + 1);
      timestamp = value_at 8 s (at + 5);
      changeset = value_at 8 s (at + 13);
      uid = value_at 4 s (at + 21);
      user = value_at 4 s (at + 25);
    }

-- the i-th ref of a way and the i-th member of a relation, from 0: "refs (i64), or members of 13 bytes (ref i64, type u8 .., role handle u32)"
unfoldable pub ref_at : Bytes → ℕ → ℕ
ref_at s i = value_at 8 s (45 + 8 * i)

unfoldable pub member_at : Bytes → ℕ → CompactMember
member_at s i =
    record { reference = value_at 8 s (45 + 13 * i); kind = value_at 1 s (45 + 13 * i + 8); role = value_at 4 s (45 + 13 * i + 9) }

-- where the first tag stands, after so many refs or members
unfoldable pub tags_at : Kind → ℕ → ℕ
tags_at Node n = 49
tags_at Way n = 45 + 8 * n
tags_at Relation n = 45 + 13 * n

unfoldable pub head_at : Kind → Bytes → Head
head_at Node s = node_head (node_at s)
head_at Way s = way_head (way_at s)
head_at Relation s = relation_head (relation_at s)

-- ---- a user's readers of heads and metadata: what is cut off the bytes, or `Unsound` where they are cut short

-- "`arena_invariant_broken`: refusal 22": the number of each `Unsound`
abbrev pub unsound_number : ℕ
unsound_number = number_of refused.Unsound

abbrev pub answer_cut : {A B : Type 0} → B → (A → Bytes → B) → Option (Cut A) → B
answer_cut unsound is None = unsound
answer_cut unsound is (Some c) = is c.item c.rest

-- a kind's head, as the bits that say so
abbrev pub read_as : {A : Type 0} → (Head → A) → Kind → Bytes → Result A Refusal
read_as saying k s = answer_cut (Err Unsound) (λ h r. Ok (saying h)) (cut_head k s)

unfoldable pub node_read : Bytes → Result CompactNode Refusal
node_read s = read_as node_bits Node s

unfoldable pub way_read : Bytes → Result CompactWay Refusal
way_read s = read_as way_bits Way s

unfoldable pub relation_read : Bytes → Result CompactRelation Refusal
relation_read s = read_as relation_bits Relation s

unfoldable pub meta_read : Bytes → ℕ → Result ArenaMeta Refusal
meta_read s at = answer_cut (Err Unsound) (λ m r. Ok (meta_bits m)) (cut_meta (drop at s))

-- ---- a user's steps, "one step a call": "none at 0 remaining, else 22 for a tag past the bytes or not text"

-- none remain, 22, or what stands there
abbrev pub RefStep : Type 0
RefStep = Result (Option RefPart) Refusal

abbrev pub MemberStep : Type 0
MemberStep = Result (Option MemberPart) Refusal

abbrev pub TagStep : Type 0
TagStep = Result (Option TagPart) Refusal

-- over any element: done at 0 remaining, else what is cut off at the offset and the offset of the next one, where the rest begins
unfoldable pub step_by : {A B : Type 0} → B → B → (A → ℕ → B) → (Bytes → Option (Cut A)) → Bytes → ℕ → ℕ → B
step_by done unsound yields cut s offset remaining =
    cond (eqb remaining 0) done (answer_cut unsound (λ a r. yields a (length s - length r)) (cut (drop offset s)))

unfoldable pub ref_step : Bytes → ℕ → ℕ → RefStep
ref_step s offset remaining = step_by (Ok None) (Err Unsound) (λ z next. Ok (Some (record { value = of_z w64 z; next = next }))) cut_i64 s offset remaining

unfoldable pub member_step : Bytes → ℕ → ℕ → MemberStep
member_step s offset remaining =
    step_by (Ok None) (Err Unsound) (λ m next. Ok (Some (record { reference = of_z w64 m.ref; kind = m.type; role = m.role; next = next }))) cut_member s offset remaining

-- a tag whose value is text
unfoldable pub cut_text : Bytes → Option (Cut (Tag ℕ))
cut_text s = then_cut (cut_tag s) (λ t r. cond (is_text t.value) (found t r) None)

-- "it yields the key's handle, unresolved"; the value lies up to the next tag
unfoldable pub tag_step : Bytes → ℕ → ℕ → TagStep
tag_step s offset remaining =
    step_by (Ok None) (Err Unsound) (λ t next. Ok (Some (record { key = t.key; start = next - length t.value; len = length t.value }))) cut_text s offset remaining

-- ---- what stands at an offset, whatever remains: a step yields it, or answers 22 where it is none

-- over any element, with the offset of the next one, where the rest begins
unfoldable pub there_by : {A B : Type 0} → (A → ℕ → B) → (Bytes → Option (Cut A)) → Bytes → ℕ → Option B
there_by yields cut s offset = answer_cut None (λ a r. Some (yields a (length s - length r))) (cut (drop offset s))

abbrev pub ref_made : ℤ → ℕ → RefPart
ref_made z next = record { value = of_z w64 z; next = next }

abbrev pub member_made : Member ℕ → ℕ → MemberPart
member_made m next = record { reference = of_z w64 m.ref; kind = m.type; role = m.role; next = next }

abbrev pub tag_made : Tag ℕ → ℕ → TagPart
tag_made t next = record { key = t.key; start = next - length t.value; len = length t.value }

abbrev pub ref_there : Bytes → ℕ → Option RefPart
ref_there s offset = there_by ref_made cut_i64 s offset

abbrev pub member_there : Bytes → ℕ → Option MemberPart
member_there s offset = there_by member_made cut_member s offset

abbrev pub tag_there : Bytes → ℕ → Option TagPart
tag_there s offset = there_by tag_made cut_text s offset

abbrev pub part_given : {A : Type 0} → Option A → Result (Option A) Refusal
part_given None = Err Unsound
part_given (Some p) = Ok (Some p)

abbrev pub part_step : {A : Type 0} → (Bytes → ℕ → Option A) → Bytes → ℕ → ℕ → Result (Option A) Refusal
part_step there s offset remaining = cond (eqb remaining 0) (Ok None) (part_given (there s offset))

-- ---- what a user makes of the answers

abbrev pub node_given : Result CompactNode Refusal → Option Head
node_given (Ok n) = Some (node_head n)
node_given (Err r) = None

abbrev pub way_given : Result CompactWay Refusal → Option Head
way_given (Ok w) = Some (way_head w)
way_given (Err r) = None

abbrev pub relation_given : Result CompactRelation Refusal → Option Head
relation_given (Ok r) = Some (relation_head r)
relation_given (Err r) = None

unfoldable pub head_read : Kind → Bytes → Option Head
head_read Node s = node_given (node_read s)
head_read Way s = way_given (way_read s)
head_read Relation s = relation_given (relation_read s)

abbrev pub meta_given : Result ArenaMeta Refusal → Option (Meta ℕ)
meta_given (Ok m) = Some (meta_of m)
meta_given (Err r) = None

pub data ReadStep (A : Type 0) : Type 0 where
  done : ReadStep A
  unsound : ReadStep A
  yields : A → ℕ → ReadStep A

abbrev pub ref_given : RefStep → ReadStep ℤ
ref_given (Ok None) = done
ref_given (Err r) = unsound
ref_given (Ok (Some p)) = yields (to_z w64 p.value) p.next

abbrev pub member_given : MemberStep → ReadStep (Member ℕ)
member_given (Ok None) = done
member_given (Err r) = unsound
member_given (Ok (Some p)) = yields (record { ref = to_z w64 p.reference; type = p.kind; role = p.role }) p.next

-- the value is the view's bytes at its place
abbrev pub tag_given : Bytes → TagStep → ReadStep (Tag ℕ)
tag_given s (Ok None) = done
tag_given s (Err r) = unsound
tag_given s (Ok (Some p)) = yields (record { key = p.key; value = take p.len (drop p.start s) }) (p.start + p.len)

-- ---- a record, read by the readers and steps alone

-- an element and those from the next offset on
abbrev pub steps_onward : {A : Type 0} → ReadStep A → (ℕ → Option (List A)) → Option (List A)
steps_onward done more = Some []
steps_onward unsound more = None
steps_onward (yields a next) more = option_map (a ∷◌) (more next)

-- step after step, from an offset on, until none remain
unfoldable pub steps_from : {A : Type 0} → (ℕ → ℕ → ReadStep A) → ℕ → ℕ → Option (List A)
steps_from f at zero = steps_onward (f at 0) (λ next. None)
steps_from f at (suc n) = steps_onward (f at (suc n)) (λ next. steps_from f next n)

unfoldable pub refs_from : Bytes → ℕ → ℕ → Option (List ℤ)
refs_from s at n = steps_from (λ o m. ref_given (ref_step s o m)) at n

unfoldable pub members_from : Bytes → ℕ → ℕ → Option (List (Member ℕ))
members_from s at n = steps_from (λ o m. member_given (member_step s o m)) at n

unfoldable pub tags_from : Bytes → ℕ → ℕ → Option (List (Tag ℕ))
tags_from s at n = steps_from (λ o m. tag_given s (tag_step s o m)) at n

-- refs or members stand after the head and the metadata
unfoldable pub body_read : Kind → Head → Bytes → Option (Body ℕ)
body_read Node h s = Some (place h.lat h.lon)
body_read Way h s = option_map refs (refs_from s (tags_at Way 0) h.count)
body_read Relation h s = option_map members (members_from s (tags_at Relation 0) h.count)

unfoldable pub read_record : Kind → Bytes → Option KeptRecord
read_record k s =
    bind (head_read k s) (λ h. bind (meta_given (meta_read s (head_len k))) (λ m. bind (body_read k h s) (λ b.
    bind (tags_from s (tags_at k h.count) h.tags) (λ ts. Some (record { id = h.id; held = record { meta = m; body = b; tags = ts } })))))
