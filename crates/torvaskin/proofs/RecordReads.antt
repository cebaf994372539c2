-- What a caller in C reads of a record by the replies is what a caller in Rattle reads by the readers and steps; so whatever follows it, a record is read as it was appended.
use Rattle.std.specs.Prelude.{Err, None, Ok, Option, Result, Some, option_map}
use Prim.Native.Nat.{ℕ, zero, suc, ◌+◌, ◌*◌}
use mathlib.Core.Path.{◌≡◌, refl, ◌∙◌, ap}
use mathlib.Core.Bool.{Bool, true, false, cond}
use mathlib.Core.List.{◌∷◌, ◌++◌}
use lib.ListN.{drop}
use lib.Dec.{eqb}
use lib.IntN.{ℤ}
use Rattle.base.specs.Bytes.{Bytes}
use Rattle.base.specs.Options.{bind}
use Rattle.kind.proofs.Numbers.{number_back}
use Rattle.kind.specs.declared.Kind.{Kind}
use Rattle.kind.specs.declared.Kind.TheVariants.{Node, Way, Relation}
use Rattle.model.specs.Record.{Meta, Record, kind_of}
use Rattle.refusal.specs.declared.Refusal.TheVariants.{Unsound}
use Rattle.refusal.specs.declared.Refusal.{Refusal}
use Rattle.compact.specs.declared.CompactNode.{CompactNode}
use Rattle.compact.specs.declared.CompactWay.{CompactWay}
use Rattle.compact.specs.declared.CompactRelation.{CompactRelation}
use Rattle.compact.specs.declared.RefPart.{RefPart}
use Rattle.compact.specs.declared.MemberPart.{MemberPart}
use Rattle.compact.specs.declared.TagPart.{TagPart}
use Rattle.compact.specs.Cut.{Cut, cut_meta, cut_head, KeptRecord}
use Rattle.compact.specs.Fits.{fitting}
use Rattle.compact.specs.Held.{meta_bits, node_head, counts_head, way_head, relation_head, node_bits, way_bits, relation_bits, head_in}
use Rattle.compact.specs.Layout.{Head, head_len, record_bytes}
use Rattle.compact.specs.Legal.{legal_texts}
use Rattle.compact.specs.View.{node_read, way_read, relation_read, node_given, way_given, relation_given, head_read, meta_read, meta_given, answer_cut, tags_at, part_given, ref_there, member_there, tag_there, ref_step, member_step, tag_step, ReadStep, done, unsound, yields, ref_given, member_given, tag_given, steps_onward, steps_from, refs_from, members_from, tags_from, body_read, read_record}
use Rattle.compact.proofs.Back.{read_record_lem}
use Rattle.c_replies.specs.Records.{node_reply, way_reply, relation_reply, meta_reply, ref_reply, member_reply, tag_reply}
use Rattle.torvaskin.specs.Records.{meta_named, c_meta, c_ref, c_member, c_tag, c_refs, c_members, c_tags, c_body, c_parts, c_record}
use Rattle.torvaskin.proofs.RecordFirst.{ref_is, member_is, tag_is}

-- ---- one step

module _ (s : Bytes) (offset remaining : ℕ) where
  pub c_ref_is : c_ref (ref_reply (ref_step s offset remaining)) ≡ ref_given (ref_step s offset remaining)
  c_ref_is = rw (← ref_is s offset remaining) (go (eqb remaining 0) (ref_there s offset))
    where
      go : (z : Bool) (o : Option RefPart) → c_ref (ref_reply (cond z (Ok None) (part_given o))) ≡ ref_given (cond z (Ok None) (part_given o))
      go true o = refl
      go false None = refl
      go false (Some p) = refl

  pub c_member_is : c_member (member_reply (member_step s offset remaining)) ≡ member_given (member_step s offset remaining)
  c_member_is = rw (← member_is s offset remaining) (go (eqb remaining 0) (member_there s offset))
    where
      go : (z : Bool) (o : Option MemberPart) → c_member (member_reply (cond z (Ok None) (part_given o))) ≡ member_given (cond z (Ok None) (part_given o))
      go true o = refl
      go false None = refl
      go false (Some p) = rw (number_back p.kind)

  pub c_tag_is : c_tag s (tag_reply (tag_step s offset remaining)) ≡ tag_given s (tag_step s offset remaining)
  c_tag_is = rw (← tag_is s offset remaining) (go (eqb remaining 0) (tag_there s offset))
    where
      go : (z : Bool) (o : Option TagPart) → c_tag s (tag_reply (cond z (Ok None) (part_given o))) ≡ tag_given s (cond z (Ok None) (part_given o))
      go true o = refl
      go false None = refl
      go false (Some p) = refl

-- ---- step after step

module _ {A : Type 0} (f g : ℕ → ℕ → ReadStep A) (same : (o m : ℕ) → f o m ≡ g o m) where
  steps_same : (at n : ℕ) → steps_from f at n ≡ steps_from g at n
  unfolding steps_from
  steps_same at zero = rw (same at 0)
  steps_same at (suc n) = rw (same at (suc n)) (go (λ next. steps_same next n) (g at (suc n)))
    where
      go : ((next : ℕ) → steps_from f next n ≡ steps_from g next n) → (x : ReadStep A) → steps_onward x (λ next. steps_from f next n) ≡ steps_onward x (λ next. steps_from g next n)
      go later done = refl
      go later unsound = refl
      go later (yields a next) = ap (option_map (a ∷◌)) (later next)

module _ (s : Bytes) (at n : ℕ) where
  c_refs_is : c_refs s at n ≡ refs_from s at n
  unfolding c_refs refs_from
  c_refs_is = steps_same (λ o m. c_ref (ref_reply (ref_step s o m))) (λ o m. ref_given (ref_step s o m)) (λ o m. c_ref_is s o m) at n

  c_members_is : c_members s at n ≡ members_from s at n
  unfolding c_members members_from
  c_members_is = steps_same (λ o m. c_member (member_reply (member_step s o m))) (λ o m. member_given (member_step s o m)) (λ o m. c_member_is s o m) at n

  c_tags_is : c_tags s at n ≡ tags_from s at n
  unfolding c_tags tags_from
  c_tags_is = steps_same (λ o m. c_tag s (tag_reply (tag_step s o m))) (λ o m. tag_given s (tag_step s o m)) (λ o m. c_tag_is s o m) at n

-- ---- the metadata, and a whole record

module _ (s : Bytes) where
  c_meta_is : (k : Kind) → c_meta (meta_named (Some k) s) ≡ meta_given (meta_read s (head_len k))
  unfolding meta_read
  c_meta_is k = go (cut_meta (drop (head_len k) s))
    where
      go : (o : Option (Cut (Meta ℕ))) → c_meta (meta_reply (answer_cut (Err Unsound) (λ m r. Ok (meta_bits m)) o)) ≡ meta_given (answer_cut (Err Unsound) (λ m r. Ok (meta_bits m)) o)
      go None = refl
      go (Some c) = refl

  -- as `read_record`, from what is read of the head on
  abbrev read_parts : Kind → Option Head → Option KeptRecord
  read_parts k x =
      bind x (λ h. bind (meta_given (meta_read s (head_len k))) (λ m. bind (body_read k h s) (λ b.
      bind (tags_from s (tags_at k h.count) h.tags) (λ ts. Some (record { id = h.id; held = record { meta = m; body = b; tags = ts } })))))

  abbrev node_cut : Option (Cut Head) → Result CompactNode Refusal
  node_cut o = answer_cut (Err Unsound) (λ h r. Ok (node_bits h)) o

  abbrev way_cut : Option (Cut Head) → Result CompactWay Refusal
  way_cut o = answer_cut (Err Unsound) (λ h r. Ok (way_bits h)) o

  abbrev relation_cut : Option (Cut Head) → Result CompactRelation Refusal
  relation_cut o = answer_cut (Err Unsound) (λ h r. Ok (relation_bits h)) o

  node_parts : (o : Option (Cut Head)) → c_parts Node s (node_reply (node_cut o)) (meta_named (Some Node) s) ≡ read_parts Node (node_given (node_cut o))
  unfolding bind c_body body_read tags_at node_bits node_head head_in
  node_parts None = refl
  node_parts (Some c) = rw (c_meta_is Node, c_tags_is s 49 c.item.tags)

  way_parts : (o : Option (Cut Head)) → c_parts Way s (way_reply (way_cut o)) (meta_named (Some Way) s) ≡ read_parts Way (way_given (way_cut o))
  unfolding bind c_body body_read tags_at way_bits way_head counts_head head_in
  way_parts None = refl
  way_parts (Some c) = rw (c_meta_is Way, c_refs_is s 45 c.item.count, c_tags_is s (45 + 8 * c.item.count) c.item.tags)

  relation_parts : (o : Option (Cut Head)) → c_parts Relation s (relation_reply (relation_cut o)) (meta_named (Some Relation) s) ≡ read_parts Relation (relation_given (relation_cut o))
  unfolding bind c_body body_read tags_at relation_bits relation_head counts_head head_in
  relation_parts None = refl
  relation_parts (Some c) = rw (c_meta_is Relation, c_members_is s 45 c.item.count, c_tags_is s (45 + 13 * c.item.count) c.item.tags)

  pub c_record_is : (k : Kind) → c_record k s ≡ read_record k s
  unfolding c_record read_record head_read node_read way_read relation_read
  c_record_is Node = node_parts (cut_head Node s)
  c_record_is Way = way_parts (cut_head Way s)
  c_record_is Relation = relation_parts (cut_head Relation s)

-- "what is read from a record is what was appended to it"
pub c_record_back : (id : ℤ) (r : Record ℕ) (q : Bytes) → fitting id r ≡ true → legal_texts r ≡ true → c_record (kind_of r.body) (record_bytes id r ++ q) ≡ Some (record { id = id; held = r })
c_record_back id r q f g = c_record_is (record_bytes id r ++ q) (kind_of r.body) ∙ (read_record_lem id r q f g).whole
