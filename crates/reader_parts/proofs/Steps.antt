-- Each child is a step of a reader: what crate reader says of it, by what is left here, and that a refused one changes nothing.
use Rattle.std.specs.Prelude.{Err}
use Prim.Native.Nat.{ℕ}
use mathlib.Core.Path.{◌≡◌, refl, ◌∙◌}
use mathlib.Core.Bool.{Bool, true, false}
use lib.IntN.{ℤ}
use mir.Syntax.{w64}
use mir.Val.{of_z}
use Rattle.base.specs.Bytes.{Bytes}
use Rattle.refusal.specs.declared.Refusal.{Refusal}
use Rattle.nesting.specs.declared.Place.{Place}
use Rattle.model.specs.Record.{Member, Tag}
use Rattle.compact.specs.Legal.{limits}
use Rattle.compact.specs.declared.PushHead.{PushHead}
use Rattle.reader_stage.specs.Stage.{ref_part}
use Rattle.interner.specs.Interned.{Interned}
use Rattle.interner.specs.Interned as I
use Rattle.interner.specs.Strings.{intern}
use Rattle.overlay.specs.Overlay.{Overlay}
use Rattle.overlay_store.specs.Calls.{handle_in, store_text}
use Rattle.event_decision.specs.Decision.{Decision, tags, refers, joins}
use Rattle.reader.specs.State.{State, more_parts}
use Rattle.reader.specs.Step.{Step, on_handle, with_text, stages, part_within, part_place, step_of}
use Rattle.reader.specs.Done.{StepResult, Works}
use Rattle.reader.proofs.Works.{step_as, work_steps}
use Rattle.reader_parts.specs.Parts.{Adding, add_part, on_text, add_with, add_tag, add_ref, add_member, child_worked}
use Rattle.reader_parts.proofs.Adds.{text_child_kept, part_kept}

-- the step of a reader that a child is
abbrev child_step : Place → Adding → Step
child_step p a = step_as a.answer p a.parts a.overlay

record ChildStep (d : Decision) (s : State) (p : Place) (a : Adding) : Type 0 where
  step : step_of d s ≡ child_step p a
  kept : (r : Refusal) → a.answer ≡ Err r → (a.overlay ≡ s.overlay) × (a.parts ≡ s.parts)

module _ (s : State) (p : Place) where
  part_steps : (within : Bool) (h : PushHead) (at : ℕ) (part : Bytes) (q : Overlay)
      → stages within s q p h at part ≡ child_step p (add_part within h at part s.reader.pending s.parts s.overlay q)
  part_steps true h at part q = refl
  part_steps false h at part q = refl

  text_steps : (i : Interned) (within : Bool) (h : PushHead) (at : ℕ) (part : ℕ → Bytes) (q : Overlay)
      → on_handle i (λ n. stages within s q p h at (part n))
      ≡ child_step p (on_text (handle_in i) s.parts s.overlay (λ n. add_part within h at (part n) s.reader.pending s.parts s.overlay q))
  text_steps (I.Held n) within h at part q = part_steps within h at (part n) q
  text_steps (I.New n) within h at part q = part_steps within h at (part n) q
  text_steps I.Full within h at part q = refl

  text_child : (d : Decision) (within : Bool) (t : Bytes) (h : PushHead) (at : ℕ) (part : ℕ → Bytes)
      → step_of d s ≡ with_text t s.overlay (λ n q. stages within s q p h at (part n))
      → ChildStep d s p (add_with within t h at part s.reader.pending s.parts s.overlay)
  unfolding add_with
  text_child d within t h at part e =
      record {
        step = e ∙ text_steps (intern s.overlay.texts t).answer within h at part (store_text t s.overlay).overlay;
        kept = text_child_kept s (record { within = within; text = t; head = h; at = at; part = part });
      }

  part_child : (d : Decision) (within : Bool) (h : PushHead) (at : ℕ) (part : Bytes)
      → step_of d s ≡ stages within s s.overlay p h at part
      → ChildStep d s p (add_part within h at part s.reader.pending s.parts s.overlay s.overlay)
  part_child d within h at part e =
      record {
        step = e ∙ part_steps within h at part s.overlay;
        kept = part_kept within h at part s.reader.pending s.parts s.overlay s.overlay;
      }

  tag_step : (t : Tag Bytes) → ChildStep (tags p t) s p (add_tag s.reader.place.kind s.reader.pending t s.parts s.overlay)
  unfolding step_of
  tag_step t = text_child (tags p t) _ _ _ _ _ refl

  ref_step : (z : ℤ) → ChildStep (refers p z) s p (add_ref s.reader.place.kind s.reader.pending z s.parts s.overlay)
  unfolding step_of
  ref_step z = part_child (refers p z) (part_within s limits.refs) (more_parts s.reader.pending.head) (part_place s) (ref_part (of_z w64 z)) refl

  member_step : (m : Member Bytes) → ChildStep (joins p m) s p (add_member s.reader.place.kind s.reader.pending m s.parts s.overlay)
  unfolding step_of
  member_step m = text_child (joins p m) _ _ _ _ _ refl

-- ---- the work that a child is

module _ (s : State) (w : StepResult) where
  works : (d : Place → Decision) (a : Adding) → ((p : Place) → ChildStep (d p) s p a) → w ≡ child_worked s a → Works d s w
  works d a step e p = let c = step p in work_steps s p (d p) a.answer a.parts a.overlay c.step c.kept e

  pub tag_works : (t : Tag Bytes) → w ≡ child_worked s (add_tag s.reader.place.kind s.reader.pending t s.parts s.overlay) → Works (λ p. tags p t) s w
  tag_works t = works (λ p. tags p t) _ (λ p. tag_step s p t)

  pub ref_works : (z : ℤ) → w ≡ child_worked s (add_ref s.reader.place.kind s.reader.pending z s.parts s.overlay) → Works (λ p. refers p z) s w
  ref_works z = works (λ p. refers p z) _ (λ p. ref_step s p z)

  pub member_works : (m : Member Bytes) → w ≡ child_worked s (add_member s.reader.place.kind s.reader.pending m s.parts s.overlay) → Works (λ p. joins p m) s w
  member_works m = works (λ p. joins p m) _ (λ p. member_step s p m)
