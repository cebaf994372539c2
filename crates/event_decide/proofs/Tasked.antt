-- What each answer stands for: the decision of its event; and how long its texts are.
use Rattle.std.specs.Prelude.{Option, None, Some, Result, IfOk, IfSome}
use Rattle.std.proofs.lemmas.Result.{IfOk-weaker}
use Prim.Native.Nat.{ℕ, ◌≤◌}
use mathlib.Core.Path.{◌≡◌, sym, ◌∙◌, ap}
use mathlib.Core.Bool.{Bool}
use mathlib.Core.Logic.{◌⊎◌, inl, inr}
use mathlib.Core.List.{List, ◌∷◌}
use native.Mathlib.Omega.{arith}
use lib.ListN.{length, drop}
use lib.Seq.{drop-drop}
use lib.IntN.{ℤ}
use mir.Syntax.{w64}
use Rattle.base.specs.Ascii.{ascii}
use Rattle.base.specs.Bytes.{Bytes}
use Rattle.refusal.specs.declared.Refusal.{Refusal}
use Rattle.kind.specs.declared.Kind.{Kind}
use Rattle.nesting.specs.declared.Action.{Action}
use Rattle.nesting.specs.declared.Action.TheVariants as A
use Rattle.nesting.specs.declared.Place.{Place}
use Rattle.event.specs.Event.{Attr, Event, reads, refused, event_of}
use Rattle.event_fields.specs.Field.{got, bad, integer_field, id_field, metadata_of}
use Rattle.event_scan.specs.declared.fields.Value.{Value}
use Rattle.event_decide.specs.declared.tasks.Work.{Work}
use Rattle.event_decide.specs.declared.tasks.Work.TheVariants as W
use Rattle.event_decide.specs.declared.tasks.Task.{Task}
use Rattle.event_decide.specs.Tasks.{WorkInBounds, TaskInBounds}
use Rattle.event_decision.specs.Decision.{refuses, push_begins, element_begins, decide_event, decide}

module _ (attrs : List Attr) (empty : Bool) (k : Kind) (p : Place) where
  pub begins_id : (a : Action) {r : Refusal} → bad r ≡ integer_field w64 (ascii "id") attrs → refuses r ≡ element_begins a empty k p attrs
  unfolding id_field
  begins_id A.Create e = rw (← e)
  begins_id A.Modify e = rw (← e)
  begins_id A.Delete e = rw (← e)

  pub begins_metadata : (a : Action) {z : ℤ} {r : Refusal} → got z ≡ integer_field w64 (ascii "id") attrs → bad r ≡ metadata_of attrs → refuses r ≡ element_begins a empty k p attrs
  unfolding id_field
  begins_metadata A.Create e h = rw (← e, ← h)
  begins_metadata A.Modify e h = rw (← e, ← h)
  begins_metadata A.Delete e h = rw (← e, ← h)

-- in a section that keeps its elements
pub begins_kept : (a : Action) (attrs : List Attr) (empty : Bool) (k : Kind) (p : Place) → (a ≡ A.Create) ⊎ (a ≡ A.Modify) → push_begins empty k p attrs ≡ element_begins a empty k p attrs
begins_kept a attrs empty k p (inl e) = rw e
begins_kept a attrs empty k p (inr e) = rw e

module _ (line : Bytes) (place : Place) where
  pub decided_refused : (r : Refusal) → refused r ≡ event_of line → refuses r ≡ decide line place
  unfolding decide
  decided_refused r e = rw (← e)

  pub decided_read : (e : Event) → reads e ≡ event_of line → decide_event e place ≡ decide line place
  unfolding decide
  decided_read x e = rw (← e)

-- ---- texts that are no longer than so many bytes are no longer than more

user_wider : {N m n : ℕ} → m ≤ n → (o : Option (Value N)) → IfSome o (λ v. length v.bytes.now ≤ m) → IfSome o (λ v. length v.bytes.now ≤ n)
user_wider h None b = tt
user_wider h (Some v) b = omega (arith, h, b)

work_wider : {m n : ℕ} → m ≤ n → (w : Work) → WorkInBounds m w → WorkInBounds n w
work_wider h W.Nothing b = tt
work_wider h (W.Begins e) b = user_wider h e.metadata.user b
work_wider h (W.Deletes e) b = user_wider h e.metadata.user b
work_wider h (W.Tags t) b = (omega (arith, h, b.0), omega (arith, h, b.1))
work_wider h (W.Refers r) b = tt
work_wider h (W.Joins m) b = omega (arith, h, b)
work_wider h W.Ends b = tt

pub task_wider : (r : Result Task Refusal) {m n : ℕ} → m ≤ n → IfOk r (TaskInBounds m) → IfOk r (TaskInBounds n)
task_wider r h b = IfOk-weaker r _ _ (λ t. work_wider h t.work) b

-- the fields behind a line's word and its name
pub behind_name : (fs gs : List Bytes) (n : Bytes) → drop 1 fs ≡ n ∷ gs → drop 2 fs ≡ gs
behind_name fs gs n e = sym (drop-drop 1 1 fs) ∙ ap (drop 1) e
