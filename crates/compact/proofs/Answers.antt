-- A user's reader or step answers 22 exactly when nothing is cut off its bytes, and nothing is cut off exactly when they are cut short.
use Rattle.refusal.specs.declared.Refusal.TheVariants.{Unsound}
use Rattle.std.specs.Prelude.{Err, None, Option, Some}
use Prim.Native.Nat.{ℕ, ◌+◌, ◌≤◌, ◌<◌}
use mathlib.Core.Path.{◌≡◌, refl, sym, ◌∙◌}
use native.Mathlib.Omega.{arith}
use lib.ListN.{length, drop}
use Rattle.base.specs.Bytes.{Bytes}
use Rattle.base.proofs.Split.{by_le, by_eq, no}
use Rattle.little.specs.Little.{value_at}
use Rattle.kind.specs.Kind.{of_number}
use Rattle.kind.specs.declared.Kind.{Kind}
use Rattle.kind.specs.declared.Kind.TheVariants.{Node, Way, Relation}
use Rattle.compact.specs.Layout.{head_len}
use Rattle.compact.specs.Cut.{Cut, found, cut_i64, cut_meta, cut_member, cut_head}
use Rattle.compact.specs.View.{unsound_number, answer_cut, node_read, way_read, relation_read, meta_read, step_by, ref_step, member_step, cut_text, tag_step}
use Rattle.compact.proofs.Places.{Sized, sized_none, i64_sized, member_sized, meta_sized, head_whole, head_short}
use Rattle.compact.proofs.Steps.{step_done, step_none, step_some}

-- "`arena_invariant_broken`: refusal 22"
pub number_is : unsound_number ≡ 22
number_is = refl

-- each tells the other
pub record Exactly (P Q : Type 0) : Type 0 where
  pub to : P → Q
  pub from : Q → P

-- ---- heads and metadata

answer_22 : {A B : Type 0} (unsound : B) (is : A → Bytes → B) → ((a : A) (r : Bytes) → is a r ≡ unsound → ⊥) → (o : Option (Cut A)) → Exactly (answer_cut unsound is o ≡ unsound) (o ≡ None)
answer_22 unsound is apart None = record { to = λ e. refl; from = λ e. refl }
answer_22 unsound is apart (Some c) = record { to = λ e. absurd (apart c.item c.rest e); from = λ e. no cc }

module _ (s : Bytes) where
  pub node_22 : Exactly (node_read s ≡ (Err Unsound)) (cut_head Node s ≡ None)
  unfolding node_read
  node_22 = answer_22 _ _ (λ h r e. no cc) (cut_head Node s)

  pub way_22 : Exactly (way_read s ≡ (Err Unsound)) (cut_head Way s ≡ None)
  unfolding way_read
  way_22 = answer_22 _ _ (λ h r e. no cc) (cut_head Way s)

  pub relation_22 : Exactly (relation_read s ≡ (Err Unsound)) (cut_head Relation s ≡ None)
  unfolding relation_read
  relation_22 = answer_22 _ _ (λ h r e. no cc) (cut_head Relation s)

  pub meta_22 : (at : ℕ) → Exactly (meta_read s at ≡ (Err Unsound)) (cut_meta (drop at s) ≡ None)
  unfolding meta_read
  meta_22 at = answer_22 _ _ (λ m r e. no cc) (cut_meta (drop at s))

-- ---- steps

-- an element should stand here, and none does
pub record Lacks {A : Type 0} (cut : Bytes → Option (Cut A)) (s : Bytes) (offset remaining : ℕ) : Type 0 where
  pub more : remaining ≡ 0 → ⊥
  pub none_there : cut (drop offset s) ≡ None

module _ {A B : Type 0} (done unsound : B) (yields : A → ℕ → B) (others : done ≡ unsound → ⊥) (apart : (a : A) (n : ℕ) → yields a n ≡ unsound → ⊥) (cut : Bytes → Option (Cut A))
    (s : Bytes) (offset remaining : ℕ) where
  step_22 : Exactly (step_by done unsound yields cut s offset remaining ≡ unsound) (Lacks cut s offset remaining)
  step_22 =
      record {
        to = λ e. by_eq remaining 0
            (λ z. absurd (others (sym (step_done done unsound yields cut s offset remaining z) ∙ e)))
            (λ z. record { more = z; none_there = go z (cut (drop offset s)) refl e });
        from = λ l. step_none done unsound yields cut s offset remaining l.more l.none_there;
      }
    where
      go : (remaining ≡ 0 → ⊥) → (o : Option (Cut A)) → cut (drop offset s) ≡ o → step_by done unsound yields cut s offset remaining ≡ unsound → cut (drop offset s) ≡ None
      go z None q e = q
      go z (Some c) q e = absurd (apart c.item _ (sym (step_some done unsound yields cut s offset remaining z c.item c.rest q) ∙ e))

module _ (s : Bytes) (offset remaining : ℕ) where
  pub ref_22 : Exactly (ref_step s offset remaining ≡ Err Unsound) (Lacks cut_i64 s offset remaining)
  unfolding ref_step
  ref_22 = step_22 _ _ _ (λ e. no cc) (λ z n e. no cc) cut_i64 s offset remaining

  pub member_22 : Exactly (member_step s offset remaining ≡ Err Unsound) (Lacks cut_member s offset remaining)
  unfolding member_step
  member_22 = step_22 _ _ _ (λ e. no cc) (λ m n e. no cc) cut_member s offset remaining

  pub tag_22 : Exactly (tag_step s offset remaining ≡ Err Unsound) (Lacks cut_text s offset remaining)
  unfolding tag_step
  tag_22 = step_22 _ _ _ (λ e. no cc) (λ t n e. no cc) cut_text s offset remaining

-- ---- when the bytes are cut short

module _ (s : Bytes) where
  pub head_none : (k : Kind) → Exactly (cut_head k s ≡ None) (length s < head_len k)
  head_none k =
      record {
        to = λ e. by_le (head_len k) (length s) (λ l. let z : found _ _ ≡ None = sym (head_whole k s l) ∙ e in no cc) (λ l. l);
        from = head_short k s;
      }

  sized_exactly : {A : Type 0} {cut : Bytes → Option (Cut A)} {n : ℕ} {to : Bytes → ℕ → A} → Sized cut n (λ s at. Some (to s at)) → 0 < n → (at : ℕ) → Exactly (cut (drop at s) ≡ None) (length s < at + n)
  sized_exactly {A} {cut} {n} {to} f z at =
      record {
        to = λ e. by_le (at + n) (length s) (λ l. let y : found (to s at) (drop (at + n) s) ≡ None = sym (f.whole s at l) ∙ e in no cc) (λ l. l);
        from = sized_none f z s at;
      }

  pub meta_none : (at : ℕ) → Exactly (cut_meta (drop at s) ≡ None) (length s < at + 29)
  meta_none = sized_exactly meta_sized (omega arith)

  pub ref_none : (at : ℕ) → Exactly (cut_i64 (drop at s) ≡ None) (length s < at + 8)
  ref_none = sized_exactly i64_sized (omega arith)

  pub member_past : (at : ℕ) → length s < at + 13 → cut_member (drop at s) ≡ None
  member_past = sized_none member_sized (omega arith) s

  -- "type u8 with 0 node, 1 way, 2 relation"
  pub member_none : (at : ℕ) → at + 13 ≤ length s → Exactly (cut_member (drop at s) ≡ None) (of_number (value_at 1 s (at + 8)) ≡ None)
  member_none at l = go (of_number (value_at 1 s (at + 8))) refl
    where
      go : (x : Option Kind) → of_number (value_at 1 s (at + 8)) ≡ x → Exactly (cut_member (drop at s) ≡ None) (of_number (value_at 1 s (at + 8)) ≡ None)
      go None q = record { to = λ e. q; from = λ e. rw (member_sized.whole s at l, q) }
      go (Some k) q = record { to = λ e. let w = member_sized.whole s at l in let z = rw (q, e) at w in no cc; from = λ e. let z : Some k ≡ None = sym q ∙ e in no cc }
