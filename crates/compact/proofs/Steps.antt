-- The readers and the steps, case by case.
use Rattle.refusal.specs.declared.Refusal.TheVariants.{Unsound}
use Rattle.std.specs.Prelude.{Err, None, Ok, Option, Some}
use Prim.Native.Nat.{ℕ, ◌+◌, ◌-◌, ◌≤◌, ◌<◌}
use mathlib.Core.Path.{◌≡◌, refl, sym}
use mathlib.Core.Bool.{true, false, cond}
use native.Mathlib.Omega.{arith}
use lib.ListN.{length, take, drop, length-drop}
use lib.Seq.{length-take-le}
use mir.Syntax.{w64}
use lib.Dec.{eqb}
use mir.Val.{to_z}
use mir.Facts.{of_z-to_z, Fits-of_lt}
use borrow.Author.Tests.{ne_eqb}
use Rattle.base.specs.Bytes.{Bytes, all}
use Rattle.base.proofs.Split.{by_bool}
use Rattle.little.specs.Little.{is_byte, value_at}
use Rattle.little.proofs.Littles.{value_at_within}
use Rattle.text.specs.Check.{is_text}
use Rattle.kind.specs.Kind.{of_number}
use Rattle.kind.specs.declared.Kind.{Kind}
use Rattle.kind.specs.declared.Kind.TheVariants.{Node, Way, Relation}
use Rattle.compact.specs.Layout.{Head, head_len}
use Rattle.compact.specs.Cut.{Cut, then_cut, found, cut_i64, cut_member}
use Rattle.compact.specs.Held.{node_head, way_head, relation_head, node_bits, way_bits, relation_bits}
use Rattle.compact.specs.View.{node_at, way_at, relation_at, meta_at, head_at, answer_cut, read_as, meta_read, step_by, cut_text, tag_step, there_by, ref_made, member_made, tag_made, ref_there, member_there, tag_there, part_given, part_step}
use Rattle.compact.proofs.Holds.{MetaHeld, meta_again, NodeHeld, node_again, way_again, relation_again}
use Rattle.compact.proofs.Places.{sized_none, next_is, i64_sized, member_sized, meta_sized, meta_there, head_whole, head_short, tag_short, tag_long, tag_whole}

-- ---- heads and metadata

pub node_front : (s : Bytes) → node_head (node_at s) ≡ head_at Node s
unfolding head_at
node_front s = refl

pub way_front : (s : Bytes) → way_head (way_at s) ≡ head_at Way s
unfolding head_at
way_front s = refl

pub relation_front : (s : Bytes) → relation_head (relation_at s) ≡ head_at Relation s
unfolding head_at
relation_front s = refl

node_held : (s : Bytes) → all is_byte s ≡ true → NodeHeld (node_at s)
unfolding node_at
node_held s small = record { id = value_at_within 8 s 0 small; lat = value_at_within 4 s 8 small; lon = value_at_within 4 s 12 small; tags = value_at_within 4 s 16 small }

pub node_same : (s : Bytes) → all is_byte s ≡ true → node_bits (head_at Node s) ≡ node_at s
unfolding head_at
node_same s small = node_again (node_at s) (node_held s small)

pub way_same : (s : Bytes) → all is_byte s ≡ true → way_bits (head_at Way s) ≡ way_at s
unfolding head_at way_at
way_same s small = way_again (way_at s) (value_at_within 8 s 0 small)

pub relation_same : (s : Bytes) → all is_byte s ≡ true → relation_bits (head_at Relation s) ≡ relation_at s
unfolding head_at relation_at
relation_same s small = relation_again (relation_at s) (value_at_within 8 s 0 small)

-- a head of any kind, read as the bits that say so
module _ {A : Type 0} (saying : Head → A) (k : Kind) (s : Bytes) where
  pub head_cut_short : length s < head_len k → Err Unsound ≡ read_as saying k s
  head_cut_short h = rw (head_short k s h)

  pub head_there : head_len k ≤ length s → Ok (saying (head_at k s)) ≡ read_as saying k s
  head_there h = rw (head_whole k s h)

module _ (s : Bytes) (small : all is_byte s ≡ true) where
  meta_held : (at : ℕ) → MetaHeld (meta_at s at)
  unfolding meta_at
  meta_held at =
      record {
        flags = value_at_within 1 s at small;
        version = value_at_within 4 s (at + 1) small;
        timestamp = value_at_within 8 s (at + 5) small;
        changeset = value_at_within 8 s (at + 13) small;
        uid = value_at_within 4 s (at + 21) small;
        user = value_at_within 4 s (at + 25) small;
      }

  pub meta_short : (at : ℕ) → length s < at + 29 → (Err Unsound) ≡ meta_read s at
  unfolding meta_read
  meta_short at h = rw (sized_none meta_sized (omega arith) s at h)

  pub meta_whole : (at : ℕ) → at + 29 ≤ length s → Ok (meta_at s at) ≡ meta_read s at
  unfolding meta_read
  meta_whole at h = rw (meta_there s at h, meta_again (meta_at s at) (meta_held at))

-- ---- a step, by what is cut off at its offset

module _ {A B : Type 0} (done unsound : B) (yields : A → ℕ → B) (cut : Bytes → Option (Cut A)) (s : Bytes) (offset remaining : ℕ) where
  pub step_done : remaining ≡ 0 → step_by done unsound yields cut s offset remaining ≡ done
  unfolding step_by
  step_done e = rw e

  module _ (more : remaining ≡ 0 → ⊥) where
    pub step_none : cut (drop offset s) ≡ None → step_by done unsound yields cut s offset remaining ≡ unsound
    unfolding step_by
    step_none e = rw (ne_eqb remaining 0 more, e)

    pub step_some : (a : A) (r : Bytes) → cut (drop offset s) ≡ found a r → step_by done unsound yields cut s offset remaining ≡ yields a (length s - length r)
    unfolding step_by
    step_some a r e = rw (ne_eqb remaining 0 more, e)

-- ---- what stands at an offset, and the step there

module _ {A B : Type 0} (yields : A → ℕ → B) (cut : Bytes → Option (Cut A)) (s : Bytes) (offset : ℕ) where
  none_there : cut (drop offset s) ≡ None → None ≡ there_by yields cut s offset
  unfolding there_by
  none_there e = rw e

  one_there : (a : A) (r : Bytes) → cut (drop offset s) ≡ found a r → Some (yields a (length s - length r)) ≡ there_by yields cut s offset
  unfolding there_by
  one_there a r e = rw e

  -- the step is what stands there, where one remains
  pub step_there : (remaining : ℕ) → part_step (there_by yields cut) s offset remaining ≡ step_by (Ok None) (Err Unsound) (λ a n. Ok (Some (yields a n))) cut s offset remaining
  unfolding there_by step_by
  step_there remaining = go (cut (drop offset s))
    where
      go : (o : Option (Cut A)) → cond (eqb remaining 0) (Ok None) (part_given (answer_cut None (λ a r. Some (yields a (length s - length r))) o))
          ≡ cond (eqb remaining 0) (Ok None) (answer_cut (Err Unsound) (λ a r. Ok (Some (yields a (length s - length r)))) o)
      go None = refl
      go (Some c) = refl

-- ---- refs, members and tags

module _ (s : Bytes) (offset : ℕ) where
  pub ref_past : length s < offset + 8 → None ≡ ref_there s offset
  ref_past h = none_there _ _ s offset (sized_none i64_sized (omega arith) s offset h)

  pub ref_whole : all is_byte s ≡ true → offset + 8 ≤ length s → Some (record { value = value_at 8 s offset; next = offset + 8 }) ≡ ref_there s offset
  ref_whole small h =
      let w = one_there ref_made cut_i64 s offset _ _ (i64_sized.whole s offset h) in
      rw (next_is s (offset + 8) h, of_z-to_z {w = w64} (Fits-of_lt (value_at_within 8 s offset small))) at w

  pub member_past : length s < offset + 13 → None ≡ member_there s offset
  member_past h = none_there _ _ s offset (sized_none member_sized (omega arith) s offset h)

  module _ (room : offset + 13 ≤ length s) where
    pub member_bad : None ≡ of_number (value_at 1 s (offset + 8)) → None ≡ member_there s offset
    member_bad e = none_there _ _ s offset (rw (member_sized.whole s offset room, ← e))

    pub member_whole : all is_byte s ≡ true → (k : Kind) → Some k ≡ of_number (value_at 1 s (offset + 8))
        → Some (record { reference = value_at 8 s offset; kind = k; role = value_at 4 s (offset + 9); next = offset + 13 }) ≡ member_there s offset
    member_whole small k e =
        let p : offset + 8 + 1 ≡ offset + 9 = omega arith in
        let w : cut_member (drop offset s) ≡ found (record { ref = to_z w64 (value_at 8 s offset); type = k; role = value_at 4 s (offset + 9) }) (drop (offset + 13) s) = rw (member_sized.whole s offset room, ← e, p) in
        let x = one_there member_made cut_member s offset _ _ w in
        rw (next_is s (offset + 13) room, of_z-to_z {w = w64} (Fits-of_lt (value_at_within 8 s offset small))) at x

  -- fewer than 8 bytes hold no tag, from whatever place on
  pub tag_lacks : length s < offset + 8 → None ≡ tag_there s offset
  unfolding cut_text then_cut
  tag_lacks h = none_there _ _ s offset (rw (tag_short s offset h))

  module _ (room : offset + 8 ≤ length s) (n : ℕ) (e : n ≡ value_at 4 s (offset + 4)) where
    pub tag_runs_over : length s < offset + 8 + n → None ≡ tag_there s offset
    unfolding cut_text then_cut
    tag_runs_over h = none_there _ _ s offset (rw (tag_long s offset room n e h))

    module _ (fit : offset + 8 + n ≤ length s) where
      abbrev value : Bytes
      value = take n (drop (offset + 8) s)

      tag_text : is_text value ≡ true → Some (record { key = value_at 4 s offset; start = offset + 8; len = n }) ≡ tag_there s offset
      unfolding cut_text then_cut
      tag_text t =
          let w : cut_text (drop offset s) ≡ found (record { key = value_at 4 s offset; value = value }) (drop (offset + 8 + n) s) = rw (tag_whole s offset room n e fit, t) in
          let l : length value ≡ n = length-take-le n (drop (offset + 8) s) (omega (arith, length-drop (offset + 8) s)) in
          let m : offset + 8 + n - n ≡ offset + 8 = omega arith in
          let x = one_there tag_made cut_text s offset _ _ w in
          rw (next_is s (offset + 8 + n) fit, l, m) at x

      tag_bad : is_text value ≡ false → None ≡ tag_there s offset
      unfolding cut_text then_cut
      tag_bad t = none_there _ _ s offset (rw (tag_whole s offset room n e fit, t))

      pub tag_checked : cond (is_text value) (Some (record { key = value_at 4 s offset; start = offset + 8; len = n })) None ≡ tag_there s offset
      tag_checked = by_bool (is_text value) (λ t. rw t (tag_text t)) (λ t. rw t (tag_bad t))

-- ---- the same as steps, for a walk over tags

module _ (s : Bytes) (offset remaining : ℕ) (more : remaining ≡ 0 → ⊥) where
  -- the step is what stands there
  tag_one : part_given (tag_there s offset) ≡ tag_step s offset remaining
  unfolding tag_step
  tag_one = rw (ne_eqb remaining 0 more) at (step_there tag_made cut_text s offset remaining)

  pub tag_past : length s < offset + 8 → Err Unsound ≡ tag_step s offset remaining
  tag_past h = rw (← tag_lacks s offset h) at tag_one

  module _ (room : offset + 8 ≤ length s) (n : ℕ) (e : n ≡ value_at 4 s (offset + 4)) where
    pub tag_over : length s < offset + 8 + n → Err Unsound ≡ tag_step s offset remaining
    tag_over h = rw (← tag_runs_over s offset room n e h) at tag_one

    pub tag_judged : offset + 8 + n ≤ length s
        → cond (is_text (take n (drop (offset + 8) s))) (Ok (Some (record { key = value_at 4 s offset; start = offset + 8; len = n }))) (Err Unsound) ≡ tag_step s offset remaining
    tag_judged fit =
        let w = rw (← tag_checked s offset room n e fit) at tag_one in
        by_bool (is_text (take n (drop (offset + 8) s))) (λ t. rw t (rw t at w)) (λ t. rw t (rw t at w))
