-- Each work on an element, by the answer of the call that it makes.
use Rattle.std.specs.Prelude.{Err, Ok, Result}
use mathlib.Core.Path.{◌≡◌, refl, sym, ◌∙◌, ap}
use mathlib.Core.Bool.{true, false}
use lib.IntN.{ℤ}
use Rattle.base.specs.Bytes.{Bytes}
use Rattle.base.proofs.Split.{no}
use Rattle.refusal.specs.declared.Refusal.{Refusal}
use Rattle.kind.specs.declared.Kind.{Kind}
use Rattle.nesting.specs.declared.Place.{Place}
use Rattle.model.specs.Record.{Meta, Body}
use Rattle.compact.specs.declared.ArenaMeta.{ArenaMeta}
use Rattle.compact.specs.declared.PushHead.{PushHead}
use Rattle.overlay.specs.Overlay.{Overlay}
use Rattle.overlay.specs.Calls.{OverlayAfter}
use Rattle.event_decision.specs.Decision.{Decision, begins, deletes, ends}
use Rattle.reader.specs.declared.Pending.{Pending}
use Rattle.reader.specs.State.{State, no_pending}
use Rattle.reader.specs.Step.{goes, stops, head_for, on_kept, on_after, clears_to, step_of}
use Rattle.reader.specs.Done.{worked, Works}
use Rattle.reader.proofs.Works.{step_as, work_steps}
use Rattle.reader_acts.specs.Acts.{AfterBegun, begin_on, by_begun, push_empty_on, delete_element_on, push_staged_on}
use Rattle.reader_acts.proofs.Laws.{begin_refused, begins_step, empty_step, deletes_step, ends_step, empty_refused, deletes_refused, staged_refused}

-- after an act nothing is staged any more
abbrev pub acted : Result Unit Refusal → Result Pending Refusal
acted (Ok tt) = Ok no_pending
acted (Err r) = Err r

-- an element that begins: no part is staged yet
abbrev pub opened_with : PushHead → Result ArenaMeta Refusal → Result Pending Refusal
opened_with h (Ok a) = Ok (record { head = h; meta = a; used = 0 })
opened_with h (Err r) = Err r

module _ (s : State) where
  -- ---- by the answer of an act, of an element that begins

  act_works : (d : Place → Decision) {a : OverlayAfter} → ((p : Place) → step_of (d p) s ≡ on_after a (clears_to s p)) → ((x : Refusal) → a.answer ≡ Err x → a.overlay ≡ s.overlay)
      → {q : Overlay} {k : Result Unit Refusal} → record { overlay = q; answer = k } ≡ a → Works d s (worked s q s.parts (acted k))
  act_works d {a} step kept {q} {k} e p =
      work_steps s p (d p) (acted k) s.parts q (step p ∙ rw (← e) (as_step k)) (λ r g. (kept_by k r g (λ x. kept x) e, refl)) refl
    where
      as_step : (k : Result Unit Refusal) → on_kept k (clears_to s p q) ≡ step_as (acted k) p s.parts q
      as_step (Ok tt) = refl
      as_step (Err r) = refl

      kept_by : (k : Result Unit Refusal) (r : Refusal) → acted k ≡ Err r → ((x : Refusal) → a.answer ≡ Err x → a.overlay ≡ s.overlay) → record { overlay = q; answer = k } ≡ a → q ≡ s.overlay
      kept_by (Ok tt) r g f e = no (cc)
      kept_by (Err x) r g f e = ap (λ (z : OverlayAfter). z.overlay) e ∙ f x (sym (ap (λ (z : OverlayAfter). z.answer) e))

  pub begun_works : (id : ℤ) (m : Meta Bytes) (b : Body Bytes) {q : Overlay} {x : Result ArenaMeta Refusal} {h : PushHead}
      → record { overlay = q; answer = x } ≡ begin_on m s.overlay → h ≡ head_for id b → Works (λ p. begins false p id m b) s (worked s q s.parts (opened_with h x))
  begun_works id m b {q} {x} {h} e f p =
      work_steps s p (begins false p id m b) (opened_with h x) s.parts q (begins_step s p id m b ∙ rw (f, ← e) (as_step x)) (λ r g. (kept_by x r g e, refl)) refl
    where
      as_step : (x : Result ArenaMeta Refusal)
          → by_begun stops (λ a. goes (record { overlay = q; place = p; pending = record { head = head_for id b; meta = a; used = 0 }; parts = s.parts })) x ≡ step_as (opened_with (head_for id b) x) p s.parts q
      as_step (Ok a) = refl
      as_step (Err r) = refl

      kept_by : (x : Result ArenaMeta Refusal) (r : Refusal) → opened_with h x ≡ Err r → record { overlay = q; answer = x } ≡ begin_on m s.overlay → q ≡ s.overlay
      kept_by (Ok a) r g e = no (cc)
      kept_by (Err y) r g e = ap (λ (z : AfterBegun). z.overlay) e ∙ begin_refused m s.overlay y (sym (ap (λ (z : AfterBegun). z.answer) e))

  -- ---- work by work

  pub empty_works : (id : ℤ) (m : Meta Bytes) (b : Body Bytes) {q : Overlay} {k : Result Unit Refusal}
      → record { overlay = q; answer = k } ≡ push_empty_on id m b s.overlay → Works (λ p. begins true p id m b) s (worked s q s.parts (acted k))
  empty_works id m b = act_works (λ p. begins true p id m b) (λ p. empty_step s p id m b) (λ x. empty_refused s.overlay x id m b)

  pub deletes_works : (k : Kind) (id : ℤ) (m : Meta Bytes) {q : Overlay} {x : Result Unit Refusal}
      → record { overlay = q; answer = x } ≡ delete_element_on k id m s.overlay → Works (λ p. deletes k p id m) s (worked s q s.parts (acted x))
  deletes_works k id m = act_works (λ p. deletes k p id m) (λ p. deletes_step s p k id m) (λ x. deletes_refused s.overlay x k id m)

  pub ends_works : {o : Overlay} {k : Kind} {p : Pending} {parts : Bytes} → s.overlay ≡ o → s.reader.place.kind ≡ k → s.reader.pending ≡ p → s.parts ≡ parts
      → {q : Overlay} {x : Result Unit Refusal} → record { overlay = q; answer = x } ≡ push_staged_on k p parts o → Works (λ p. ends p) s (worked s q s.parts (acted x))
  ends_works on kinds pendings staged e =
      act_works (λ p. ends p) (λ p. ends_step s p) (λ x. staged_refused s.overlay x s.reader.place.kind s.reader.pending s.parts) (rw (← on, ← kinds, ← pendings, ← staged) at e)
