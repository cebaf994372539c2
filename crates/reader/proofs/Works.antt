-- A step by its work: what it leaves of overlay and lent bytes, and that refused work changes nothing.
use Rattle.std.specs.Prelude.{Result, Ok, Err}
use mathlib.Core.Path.{◌≡◌, refl}
use Rattle.base.specs.Bytes.{Bytes}
use Rattle.refusal.specs.declared.Refusal.{Refusal}
use Rattle.nesting.specs.declared.Place.{Place}
use Rattle.overlay.specs.Overlay.{Overlay}
use Rattle.event_decision.specs.Decision.{Decision}
use Rattle.reader.specs.declared.Pending.{Pending}
use Rattle.reader.specs.State.{State}
use Rattle.reader.specs.Step.{Step, goes, stops, step_of}
use Rattle.reader.specs.Done.{StepResult, done_by, worked, placed}

-- the step that work is
abbrev pub step_as : Result Pending Refusal → Place → Bytes → Overlay → Step
step_as (Ok x) p parts o = goes (record { overlay = o; place = p; pending = x; parts = parts })
step_as (Err r) p parts o = stops r

module _ (s : State) (p : Place) where
  placed_work : (x : Result Pending Refusal) (parts : Bytes) (o : Overlay) → ((r : Refusal) → x ≡ Err r → (o ≡ s.overlay) × (parts ≡ s.parts))
      → placed p (worked s o parts x) ≡ done_by s (step_as x p parts o)
  placed_work (Ok x) parts o kept = refl
  placed_work (Err r) parts o kept = let k = kept r refl in rw (k.0, k.1)

  pub work_steps : (d : Decision) (x : Result Pending Refusal) (parts : Bytes) (o : Overlay) → step_of d s ≡ step_as x p parts o
      → ((r : Refusal) → x ≡ Err r → (o ≡ s.overlay) × (parts ≡ s.parts)) → {w : StepResult} → w ≡ worked s o parts x → placed p w ≡ done_by s (step_of d s)
  work_steps d x parts o e kept f = rw (e, f) (placed_work x parts o kept)
