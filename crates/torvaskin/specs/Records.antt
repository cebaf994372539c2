-- The C boundary of a record's bytes: what each entry replies. No overlay is looked at: of a kind that a number does not mean 17 comes first, of bytes that are missing 22.
use Rattle.std.specs.Prelude.{ℕ, ℤ, ◌+◌, Bool, cond, List, [], ◌∷◌, length, take, drop, ltb, eqb, not, Err, None, Option, Some, option_map}
use Rattle.std.specs.Int.{w32, w64}
use Rattle.std.proofs.Common.{to_z}
use Rattle.std.specs.Option.{is_none}
use Rattle.base.specs.Bytes.{Bytes, both, either}
use Rattle.base.specs.Options.{bind}
use Rattle.little.specs.Little.{value_at}
use Rattle.text.specs.Check.{is_text}
use Rattle.kind.specs.Kind.{of_number}
use Rattle.kind.specs.declared.Kind.{Kind}
use Rattle.kind.specs.declared.Kind.TheVariants.{Node, Way, Relation}
use Rattle.refusal.specs.First.{ConditionRow, row}
use Rattle.refusal.specs.declared.Refusal.{Refusal}
use Rattle.refusal.specs.declared.Refusal.TheVariants as R
use Rattle.overlay.specs.First.{kind_rows}
use Rattle.model.specs.Record.{Meta, Member, Tag, Body, place, refs, members}
use Rattle.compact.specs.Cut.{KeptRecord}
use Rattle.compact.specs.Held.{meta_of, head_in}
use Rattle.compact.specs.Layout.{Head, head_len}
use Rattle.compact.specs.View.{node_read, way_read, relation_read, meta_read, ref_step, member_step, tag_step, ReadStep, done, unsound, yields, steps_from}
use Rattle.c_replies.specs.Records.{refused_head, node_reply, way_reply, relation_reply, meta_reply, ref_reply, member_reply, tag_reply}
use Rattle.c_replies.specs.declared.HeadReply.{HeadReply}
use Rattle.c_replies.specs.declared.MetaReply.{MetaReply}
use Rattle.c_replies.specs.declared.RefReply.{RefReply}
use Rattle.c_replies.specs.declared.MemberReply.{MemberReply}
use Rattle.c_replies.specs.declared.TagReply.{TagReply}

abbrev pub head_named : Option Kind → Bytes → HeadReply
head_named (Some Node) s = node_reply (node_read s)
head_named (Some Way) s = way_reply (way_read s)
head_named (Some Relation) s = relation_reply (relation_read s)
head_named None s = refused_head R.BadRecord

abbrev pub meta_named : Option Kind → Bytes → MetaReply
meta_named (Some k) s = meta_reply (meta_read s (head_len k))
meta_named None s = meta_reply (Err R.BadRecord)

-- ---- the tables (proofs/RecordFirst)

-- 22, of fewer bytes than so many
abbrev pub short_row : ℕ → Bytes → ConditionRow Refusal
short_row n s = row R.Unsound (ltb (length s) n)

-- the head: 17, 22
abbrev pub head_table : ℕ → Bytes → List (ConditionRow Refusal)
head_table kind s = kind_rows (of_number kind) (λ k. short_row (head_len k) s ∷ [])

-- the metadata, which stand behind the head: 17, 22
abbrev pub meta_table : ℕ → Bytes → List (ConditionRow Refusal)
meta_table kind s = kind_rows (of_number kind) (λ k. short_row (head_len k + 29) s ∷ [])

-- a step: 22 where one remains and none stands at the offset
abbrev pub step_table : ℕ → Bool → List (ConditionRow Refusal)
step_table remaining none_there = row R.Unsound (both (not (eqb remaining 0)) none_there) ∷ []

-- "refs (i64)"
abbrev pub ref_table : Bytes → ℕ → ℕ → List (ConditionRow Refusal)
ref_table s offset remaining = step_table remaining (ltb (length s) (offset + 8))

-- "members of 13 bytes (ref i64, type u8 with 0 node, 1 way, 2 relation, role handle u32)"
abbrev pub member_table : Bytes → ℕ → ℕ → List (ConditionRow Refusal)
member_table s offset remaining = step_table remaining (either (ltb (length s) (offset + 13)) (is_none (of_number (value_at 1 s (offset + 8)))))

-- "22 for a tag past the bytes or not text": the length of its value stands in the 4 bytes behind its key's handle
abbrev pub tag_table : Bytes → ℕ → ℕ → List (ConditionRow Refusal)
tag_table s offset remaining =
    let n = value_at 4 s (offset + 4) in
    step_table remaining (either (ltb (length s) (offset + 8)) (either (ltb (length s) (offset + 8 + n)) (not (is_text (take n (drop (offset + 8) s))))))

-- ---- a record, read by the replies alone: put together as `compact/specs/View: read_record` is of what the readers and steps answer (proofs/RecordReads)

abbrev pub c_head : Kind → HeadReply → Option Head
c_head k r = cond (eqb r.number 0) (Some (head_in k r.head)) None

abbrev pub c_meta : MetaReply → Option (Meta ℕ)
c_meta r = cond (eqb r.number 0) (Some (meta_of r.meta)) None

-- what was found; else the walk's end where nothing is refused
abbrev pub c_step : {A : Type 0} → ℕ → ℕ → ReadStep A → ReadStep A
c_step number found step = cond (eqb found 1) step (cond (eqb number 0) done unsound)

abbrev pub c_ref : RefReply → ReadStep ℤ
c_ref r = c_step r.number r.found (yields (to_z w64 r.value) r.next)

abbrev pub member_of : ℤ → Option Kind → ℕ → ℕ → ReadStep (Member ℕ)
member_of ref (Some k) role next = yields (record { ref = ref; type = k; role = role }) next
member_of ref None role next = unsound

abbrev pub c_member : MemberReply → ReadStep (Member ℕ)
c_member r = c_step r.number r.found (member_of (to_z w64 r.reference) (of_number r.kind) r.role r.next)

-- the value is the record's bytes at its place
abbrev pub c_tag : Bytes → TagReply → ReadStep (Tag ℕ)
c_tag s r = c_step r.number r.found (yields (record { key = r.key; value = take r.len (drop r.start s) }) (r.start + r.len))

unfoldable pub c_refs : Bytes → ℕ → ℕ → Option (List ℤ)
c_refs s at n = steps_from (λ o m. c_ref (ref_reply (ref_step s o m))) at n

unfoldable pub c_members : Bytes → ℕ → ℕ → Option (List (Member ℕ))
c_members s at n = steps_from (λ o m. c_member (member_reply (member_step s o m))) at n

unfoldable pub c_tags : Bytes → ℕ → ℕ → Option (List (Tag ℕ))
c_tags s at n = steps_from (λ o m. c_tag s (tag_reply (tag_step s o m))) at n

unfoldable pub c_body : Kind → HeadReply → Bytes → Option (Body ℕ)
c_body Node r s = Some (place (to_z w32 r.head.lat) (to_z w32 r.head.lon))
c_body Way r s = option_map refs (c_refs s r.parts_at r.head.count)
c_body Relation r s = option_map members (c_members s r.parts_at r.head.count)

abbrev pub c_parts : Kind → Bytes → HeadReply → MetaReply → Option KeptRecord
c_parts k s r m =
    bind (c_head k r) (λ h. bind (c_meta m) (λ m. bind (c_body k r s) (λ b. bind (c_tags s r.tags_at r.head.tags) (λ ts.
    Some (record { id = h.id; held = record { meta = m; body = b; tags = ts } })))))

unfoldable pub c_record : Kind → Bytes → Option KeptRecord
c_record k s = c_parts k s (head_named (Some k) s) (meta_named (Some k) s)
