-- T4 of the entries on a record's bytes: the number of each reply is that of the first condition that holds: 17 for a number that means no kind, then 22; it is 0 where none holds.
-- And a step that yields goes forward, and not past the bytes.
use Rattle.std.specs.Prelude.{Err, None, Ok, Option, Result, Some}
use Rattle.std.specs.Option.{is_none}
use Prim.Native.Nat.{ℕ, ◌+◌, ◌-◌, ◌<◌, ◌≤◌}
use mathlib.Core.Path.{◌≡◌, refl, sym, ◌∙◌}
use mathlib.Core.Bool.{Bool, true, false, not, cond}
use mathlib.Core.List.{[], ◌∷◌}
use native.Mathlib.Omega.{arith}
use lib.Dec.{ltb, eqb}
use lib.ListN.{length, take, drop}
use mir.Syntax.{w64}
use mir.Val.{to_z}
use borrow.Author.Tests.{ltb-true, ltb-false}
use Rattle.base.specs.Bytes.{Bytes, both, either}
use Rattle.base.proofs.Split.{by_bool, by_le, no}
use Rattle.little.specs.Little.{value_at}
use Rattle.text.specs.Check.{is_text}
use Rattle.kind.specs.Kind.{of_number}
use Rattle.kind.specs.declared.Kind.{Kind}
use Rattle.kind.specs.declared.Kind.TheVariants.{Node, Way, Relation}
use Rattle.refusal.specs.First.{row, first_of}
use Rattle.refusal.specs.declared.Refusal.{Refusal}
use Rattle.refusal.specs.declared.Refusal.TheVariants as R
use Rattle.overlay.specs.First.{number_by, kind_rows}
use Rattle.compact.specs.Cut.{cut_i64, cut_member}
use Rattle.compact.specs.Held.{member_named}
use Rattle.compact.specs.Layout.{head_len}
use Rattle.compact.specs.declared.RefPart.{RefPart}
use Rattle.compact.specs.declared.MemberPart.{MemberPart}
use Rattle.compact.specs.declared.TagPart.{TagPart}
use Rattle.compact.specs.View.{node_read, way_read, relation_read, meta_read, answer_cut, there_by, ref_made, member_made, tag_made, ref_there, member_there, tag_there, part_given, part_step, ref_step, member_step, tag_step, cut_text}
use Rattle.compact.proofs.Answers.{meta_none}
use Rattle.compact.proofs.Places.{leaving, next_is, head_short, head_whole, meta_there, i64_sized, member_sized}
use Rattle.compact.proofs.Steps.{step_there, ref_past, member_past, tag_lacks, tag_runs_over, tag_checked}
use Rattle.c_replies.specs.Records.{ref_reply, member_reply, tag_reply}
use Rattle.torvaskin.specs.Records.{head_named, meta_named, short_row, head_table, meta_table, step_table, ref_table, member_table, tag_table}

-- ---- the head, the metadata: 17, 22

module _ (s : Bytes) where
  kind_head : (k : Kind) → (head_named (Some k) s).number ≡ number_by (first_of (short_row (head_len k) s ∷ []))
  unfolding node_read way_read relation_read first_of
  kind_head Node = by_bool (ltb (length s) 20) (λ e. rw (head_short Node s (ltb-true _ _ e), e)) (λ e. rw (head_whole Node s (ltb-false _ _ e), e))
  kind_head Way = by_bool (ltb (length s) 16) (λ e. rw (head_short Way s (ltb-true _ _ e), e)) (λ e. rw (head_whole Way s (ltb-false _ _ e), e))
  kind_head Relation = by_bool (ltb (length s) 16) (λ e. rw (head_short Relation s (ltb-true _ _ e), e)) (λ e. rw (head_whole Relation s (ltb-false _ _ e), e))

  named_head : (n : Option Kind) → (head_named n s).number ≡ number_by (first_of (kind_rows n (λ k. short_row (head_len k) s ∷ [])))
  unfolding first_of
  named_head (Some k) = kind_head k
  named_head None = refl

  pub head_first : (kind : ℕ) → (head_named (of_number kind) s).number ≡ number_by (first_of (head_table kind s))
  head_first kind = named_head (of_number kind)

  named_meta : (n : Option Kind) → (meta_named n s).number ≡ number_by (first_of (kind_rows n (λ k. short_row (head_len k + 29) s ∷ [])))
  unfolding meta_read first_of
  named_meta (Some k) =
      by_bool (ltb (length s) (head_len k + 29))
      (λ e. rw ((meta_none s (head_len k)).from (ltb-true _ _ e), e))
      (λ e. rw (meta_there s (head_len k) (ltb-false _ _ e), e))
  named_meta None = refl

  pub meta_first : (kind : ℕ) → (meta_named (of_number kind) s).number ≡ number_by (first_of (meta_table kind s))
  meta_first kind = named_meta (of_number kind)

-- ---- the steps: 22

module _ {A : Type 0} (number : Result (Option A) Refusal → ℕ) (done : number (Ok None) ≡ 0) (yields : (a : A) → number (Ok (Some a)) ≡ 0) (unsound : number (Err R.Unsound) ≡ 22) where
  part_first : (remaining : ℕ) (there : Option A) {none_there : Bool} → is_none there ≡ none_there
      → number (cond (eqb remaining 0) (Ok None) (part_given there)) ≡ number_by (first_of (step_table remaining none_there))
  unfolding first_of both
  part_first remaining there e = rw (← e) (go (eqb remaining 0) there)
    where
      go : (z : Bool) (o : Option A) → number (cond z (Ok None) (part_given o)) ≡ number_by (first_of (row R.Unsound (both (not z) (is_none o)) ∷ []))
      go true o = done
      go false None = unsound
      go false (Some a) = yields a

module _ (s : Bytes) (offset : ℕ) where
  no_ref_there : is_none (ref_there s offset) ≡ ltb (length s) (offset + 8)
  unfolding there_by
  no_ref_there =
      by_bool (ltb (length s) (offset + 8))
      (λ e. rw (← ref_past s offset (ltb-true _ _ e), e))
      (λ e. rw (i64_sized.whole s offset (ltb-false _ _ e), e))

  no_member_there : is_none (member_there s offset) ≡ either (ltb (length s) (offset + 13)) (is_none (of_number (value_at 1 s (offset + 8))))
  unfolding there_by either
  no_member_there =
      by_bool (ltb (length s) (offset + 13))
      (λ e. rw (← member_past s offset (ltb-true _ _ e), e))
      (λ e. rw (member_sized.whole s offset (ltb-false _ _ e), e) (go (of_number (value_at 1 s (offset + 8)))))
    where
      go : (k : Option Kind) → is_none (answer_cut None (λ m r. Some (member_made m (length s - length r))) (leaving (member_named (to_z w64 (value_at 8 s offset)) k (value_at 4 s (offset + 8 + 1))) (drop (offset + 13) s))) ≡ is_none k
      go None = refl
      go (Some k) = refl

  no_tag_there : let n = value_at 4 s (offset + 4) in
      is_none (tag_there s offset) ≡ either (ltb (length s) (offset + 8)) (either (ltb (length s) (offset + 8 + n)) (not (is_text (take n (drop (offset + 8) s)))))
  unfolding either
  no_tag_there =
      let n = value_at 4 s (offset + 4) in
      by_bool (ltb (length s) (offset + 8))
      (λ e. rw (← tag_lacks s offset (ltb-true _ _ e), e))
      (λ e. by_bool (ltb (length s) (offset + 8 + n))
      (λ f. rw (← tag_runs_over s offset (ltb-false _ _ e) n refl (ltb-true _ _ f), e, f))
      (λ f. rw (← tag_checked s offset (ltb-false _ _ e) n refl (ltb-false _ _ f), e, f) (by_bool (is_text (take n (drop (offset + 8) s))) (λ t. rw t) (λ t. rw t))))

module _ (s : Bytes) (offset remaining : ℕ) where
  pub ref_is : part_step ref_there s offset remaining ≡ ref_step s offset remaining
  unfolding ref_step
  ref_is = step_there ref_made cut_i64 s offset remaining

  pub member_is : part_step member_there s offset remaining ≡ member_step s offset remaining
  unfolding member_step
  member_is = step_there member_made cut_member s offset remaining

  pub tag_is : part_step tag_there s offset remaining ≡ tag_step s offset remaining
  unfolding tag_step
  tag_is = step_there tag_made cut_text s offset remaining

  pub ref_first : (ref_reply (ref_step s offset remaining)).number ≡ number_by (first_of (ref_table s offset remaining))
  ref_first = rw (← ref_is) (part_first (λ x. (ref_reply x).number) refl (λ a. refl) refl remaining (ref_there s offset) (no_ref_there s offset))

  pub member_first : (member_reply (member_step s offset remaining)).number ≡ number_by (first_of (member_table s offset remaining))
  member_first = rw (← member_is) (part_first (λ x. (member_reply x).number) refl (λ a. refl) refl remaining (member_there s offset) (no_member_there s offset))

  pub tag_first : (tag_reply (tag_step s offset remaining)).number ≡ number_by (first_of (tag_table s offset remaining))
  tag_first = rw (← tag_is) (part_first (λ x. (tag_reply x).number) refl (λ a. refl) refl remaining (tag_there s offset) (no_tag_there s offset))

-- ---- a step that finds something goes forward, and not past the bytes

pub record Onward (s : Bytes) (offset next : ℕ) : Type 0 where
  pub forward : offset < next
  pub within : next ≤ length s

module _ {A : Type 0} (found next : Result (Option A) Refusal → ℕ) (done : found (Ok None) ≡ 0) (refused : found (Err R.Unsound) ≡ 0) (s : Bytes) (offset : ℕ) where
  part_onward : (remaining : ℕ) (there : Option A) → ((a : A) → there ≡ Some a → Onward s offset (next (Ok (Some a))))
      → found (cond (eqb remaining 0) (Ok None) (part_given there)) ≡ 1 → Onward s offset (next (cond (eqb remaining 0) (Ok None) (part_given there)))
  part_onward remaining there = go (eqb remaining 0) there
    where
      go : (z : Bool) (o : Option A) → ((a : A) → o ≡ Some a → Onward s offset (next (Ok (Some a)))) → found (cond z (Ok None) (part_given o)) ≡ 1 → Onward s offset (next (cond z (Ok None) (part_given o)))
      go true o w e = no (sym done ∙ e)
      go false None w e = no (sym refused ∙ e)
      go false (Some a) w e = w a refl

module _ (s : Bytes) (offset : ℕ) where
  -- of fixed length
  ends_at : (n : ℕ) → 0 < n → offset + n ≤ length s → {m : ℕ} → m ≡ length s - length (drop (offset + n) s) → Onward s offset m
  ends_at n p h e = let w = next_is s (offset + n) h in record { forward = omega arith; within = omega arith }

  ref_ends : (p : RefPart) → ref_there s offset ≡ Some p → Onward s offset p.next
  unfolding there_by
  ref_ends p e =
      by_le (offset + 8) (length s)
      (λ h. let f : ◌≡◌ {A = Option RefPart} (Some _) (Some p) = rw (i64_sized.whole s offset h) at e in ends_at 8 (omega arith) h cc)
      (λ h. let f : ◌≡◌ {A = Option RefPart} None (Some p) = ref_past s offset h ∙ e in no cc)

  member_ends : (p : MemberPart) → member_there s offset ≡ Some p → Onward s offset p.next
  unfolding there_by
  member_ends p e =
      by_le (offset + 13) (length s)
      (λ h. go (of_number (value_at 1 s (offset + 8))) h (rw (member_sized.whole s offset h) at e))
      (λ h. let f : ◌≡◌ {A = Option MemberPart} None (Some p) = member_past s offset h ∙ e in no cc)
    where
      go : (k : Option Kind) → offset + 13 ≤ length s
          → answer_cut None (λ m r. Some (member_made m (length s - length r))) (leaving (member_named (to_z w64 (value_at 8 s offset)) k (value_at 4 s (offset + 8 + 1))) (drop (offset + 13) s)) ≡ Some p → Onward s offset p.next
      go None h f = no cc
      go (Some k) h f = ends_at 13 (omega arith) h cc

  tag_ends : (p : TagPart) → tag_there s offset ≡ Some p → Onward s offset (p.start + p.len)
  tag_ends p e =
      let n = value_at 4 s (offset + 4) in
      by_le (offset + 8) (length s)
      (λ h. by_le (offset + 8 + n) (length s)
      (λ g. go n (is_text (take n (drop (offset + 8) s))) g (tag_checked s offset h n refl g ∙ e))
      (λ g. let f : ◌≡◌ {A = Option TagPart} None (Some p) = tag_runs_over s offset h n refl g ∙ e in no cc))
      (λ h. let f : ◌≡◌ {A = Option TagPart} None (Some p) = tag_lacks s offset h ∙ e in no cc)
    where
      go : (n : ℕ) (t : Bool) → offset + 8 + n ≤ length s → cond t (Some (record { key = value_at 4 s offset; start = offset + 8; len = n })) None ≡ Some p → Onward s offset (p.start + p.len)
      go n true g f =
          let a : offset + 8 ≡ p.start = cc in
          let b : n ≡ p.len = cc in
          record { forward = omega arith; within = omega arith }
      go n false g f = no cc

module _ (s : Bytes) (offset remaining : ℕ) where
  pub ref_onward : (ref_reply (ref_step s offset remaining)).found ≡ 1 → Onward s offset (ref_reply (ref_step s offset remaining)).next
  ref_onward =
      rw (← ref_is s offset remaining)
      (part_onward (λ x. (ref_reply x).found) (λ x. (ref_reply x).next) refl refl s offset remaining (ref_there s offset) (ref_ends s offset))

  pub member_onward : (member_reply (member_step s offset remaining)).found ≡ 1 → Onward s offset (member_reply (member_step s offset remaining)).next
  member_onward =
      rw (← member_is s offset remaining)
      (part_onward (λ x. (member_reply x).found) (λ x. (member_reply x).next) refl refl s offset remaining (member_there s offset) (member_ends s offset))

  pub tag_onward : (tag_reply (tag_step s offset remaining)).found ≡ 1 → Onward s offset ((tag_reply (tag_step s offset remaining)).start + (tag_reply (tag_step s offset remaining)).len)
  tag_onward =
      rw (← tag_is s offset remaining)
      (part_onward (λ x. (tag_reply x).found) (λ x. (tag_reply x).start + (tag_reply x).len) refl refl s offset remaining (tag_there s offset) (tag_ends s offset))
