-- Each act of an event is a clause of `step_of`, and a refused act changes nothing.
use Rattle.std.specs.Prelude.{Err, Ok, Result, ℕ}
use Prim.Native.Nat.{◌<◌}
use mathlib.Core.Path.{◌≡◌, refl, ap}
use mathlib.Core.Bool.{true, false}
use lib.IntN.{ℤ}
use lib.ListN.{take}
use Rattle.base.specs.Bytes.{Bytes}
use Rattle.base.proofs.Split.{by_bool, no}
use Rattle.refusal.specs.declared.Refusal.{Refusal}
use Rattle.kind.specs.declared.Kind.{Kind}
use Rattle.nesting.specs.declared.Place.{Place}
use Rattle.model.specs.Record.{Meta, Body, kind_of, flagged, claim_of}
use Rattle.compact.specs.declared.ArenaMeta.{ArenaMeta}
use Rattle.interner.specs.Strings.{intern}
use Rattle.interner.specs.Interned.{Interned}
use Rattle.interner.specs.Interned as I
use Rattle.kind_store.specs.KindStore.{known_version, checked}
use Rattle.overlay.specs.Overlay.{Overlay, kind_store_of}
use Rattle.overlay.specs.Calls.{OverlayAfter, overlay_refused}
use Rattle.overlay_store.specs.Calls.{Interning, handle_in, store_text}
use Rattle.overlay_store.proofs.Answers.{store_push_refused}
use Rattle.event_decision.specs.Decision.{begins, deletes, ends}
use Rattle.reader.specs.declared.Pending.{Pending}
use Rattle.reader.specs.State.{State}
use Rattle.reader.specs.Step.{Step, goes, stops, on_handle, taking_user, bits_with_user, head_for, unless_below, on_kept, on_after, unless_regression, clears_to, step_of}
use Rattle.reader_acts.specs.Acts.{AfterBegun, begun_by, begin_on, by_begun, admitted, act_kept_as, act_kept, act_on, push_empty_on, delete_element_on, push_staged_on, HandleFits}
use Rattle.reader_texts.proofs.Handles.{by_intern}
use Rattle.reader_acts.proofs.Handles.{handle_fits}

-- ---- the user that metadata names

module _ (m : Meta Bytes) (o : Overlay) where
  -- 13 changes nothing
  pub begin_refused : (r : Refusal) → (begin_on m o).answer ≡ Err r → (begin_on m o).overlay ≡ o
  unfolding begin_on
  begin_refused r e =
      by_bool (flagged 4 m.flags)
      (λ t. by_intern o.texts m.user (λ h l i. rw (t, i)) (λ i. let z : Ok (bits_with_user m o.texts.strings) ≡ Err r = rw (t, i) at e in no (cc)) (λ i. rw (t, i)))
      (λ t. rw t)

  -- a user that is named, by its handle
  pub begin_named : flagged 4 m.flags ≡ true → o.texts.strings < 4294967296 → {q : Overlay} {h : Result ℕ Refusal} {r : Result ArenaMeta Refusal}
      → record { overlay = q; answer = h } ≡ store_text m.user o → (HandleFits h → r ≡ begun_by m h) → record { overlay = q; answer = r } ≡ begin_on m o
  unfolding begin_on
  begin_named t l e f = rw (t, f (rw (ap (λ (z : Interning). z.answer) e) (handle_fits m.user o l))) (ap begun_of e)
    where
      begun_of : Interning → AfterBegun
      begun_of z = record { overlay = z.overlay; answer = begun_by m z.answer }

  pub begin_unnamed : flagged 4 m.flags ≡ false → {a : ArenaMeta} → a ≡ bits_with_user m 0 → record { overlay = o; answer = Ok a } ≡ begin_on m o
  unfolding begin_on
  begin_unnamed t e = rw (t, e)

  with_user_lem : (f : ArenaMeta → Overlay → Step) → taking_user m o f ≡ by_begun stops (λ a. f a (begin_on m o).overlay) (begin_on m o).answer
  unfolding begin_on taking_user
  with_user_lem f = by_bool (flagged 4 m.flags) (λ t. rw t (go (intern o.texts m.user).answer)) (λ t. rw t)
    where
      go : (i : Interned) → on_handle i (λ h. f (bits_with_user m h) (store_text m.user o).overlay) ≡ by_begun stops (λ a. f a (store_text m.user o).overlay) (begun_by m (handle_in i))
      go (I.Held h) = refl
      go (I.New h) = refl
      go I.Full = refl

-- an element that begins
pub begins_step : (s : State) (p : Place) (id : ℤ) (m : Meta Bytes) (b : Body Bytes)
    → step_of (begins false p id m b) s
    ≡ by_begun stops (λ a. goes (record { overlay = (begin_on m s.overlay).overlay; place = p; pending = record { head = head_for id b; meta = a; used = 0 }; parts = s.parts })) (begin_on m s.overlay).answer
unfolding step_of
begins_step s p id m b =
    with_user_lem m s.overlay (λ a o. goes (record { overlay = o; place = p; pending = record { head = head_for id b; meta = a; used = 0 }; parts = s.parts }))

-- ---- an act

-- a refused act changes nothing
taken_refused : (o q : Overlay) (x : Result Unit Refusal) (r : Refusal) → (act_kept_as o q x).answer ≡ Err r → (act_kept_as o q x).overlay ≡ o
taken_refused o q (Ok tt) r e = no (cc)
taken_refused o q (Err y) r e = refl

module _ (k : Kind) (id : ℤ) (m : Meta Bytes) (act : ArenaMeta → Overlay → OverlayAfter) (o : Overlay) where
  act_refused : (r : Refusal) → (act_on k id m act o).answer ≡ Err r → (act_on k id m act o).overlay ≡ o
  unfolding act_on
  act_refused r e = go (checked o.setting (known_version k (kind_store_of k o) id) (claim_of m)) (begin_on m o).answer e
    where
      go : (a : Result Unit ℤ) (b : Result ArenaMeta Refusal) → (admitted o a (by_begun (overlay_refused o) (λ x. act_kept o (act x (begin_on m o).overlay)) b)).answer ≡ Err r
          → (admitted o a (by_begun (overlay_refused o) (λ x. act_kept o (act x (begin_on m o).overlay)) b)).overlay ≡ o
      go (Err v) b z = refl
      go (Ok tt) (Err y) z = refl
      go (Ok tt) (Ok x) z = taken_refused o (act x (begin_on m o).overlay).overlay (act x (begin_on m o).overlay).answer r z

  kept_step : (f : Overlay → Step) (q : Overlay) (x : Result Unit Refusal) → on_kept x (f q) ≡ on_after (act_kept_as o q x) f
  kept_step f q (Ok tt) = refl
  kept_step f q (Err r) = refl

  act_step : (f : Overlay → Step) → unless_regression o k id (claim_of m) (taking_user m o (λ a q. on_after (act a q) f)) ≡ on_after (act_on k id m act o) f
  unfolding act_on
  act_step f = rw (with_user_lem m o (λ a q. on_after (act a q) f)) (go (checked o.setting (known_version k (kind_store_of k o) id) (claim_of m)) (begin_on m o).answer)
    where
      go : (a : Result Unit ℤ) (b : Result ArenaMeta Refusal) → unless_below a (by_begun stops (λ x. on_after (act x (begin_on m o).overlay) f) b) ≡ on_after (admitted o a (by_begun (overlay_refused o) (λ x. act_kept o (act x (begin_on m o).overlay)) b)) f
      go (Err v) b = refl
      go (Ok tt) (Err r) = refl
      go (Ok tt) (Ok x) = kept_step f (act x (begin_on m o).overlay).overlay (act x (begin_on m o).overlay).answer

module _ (s : State) (p : Place) where
  pub empty_step : (id : ℤ) (m : Meta Bytes) (b : Body Bytes) → step_of (begins true p id m b) s ≡ on_after (push_empty_on id m b s.overlay) (clears_to s p)
  unfolding step_of
  empty_step id m b = act_step (kind_of b) id m _ s.overlay (clears_to s p)

  pub deletes_step : (k : Kind) (id : ℤ) (m : Meta Bytes) → step_of (deletes k p id m) s ≡ on_after (delete_element_on k id m s.overlay) (clears_to s p)
  unfolding step_of
  deletes_step k id m = act_step k id m _ s.overlay (clears_to s p)

  pub ends_step : step_of (ends p) s ≡ on_after (push_staged_on s.reader.place.kind s.reader.pending s.parts s.overlay) (clears_to s p)
  unfolding step_of
  ends_step = refl

-- ---- a refusal changes nothing

module _ (o : Overlay) (r : Refusal) where
  pub empty_refused : (id : ℤ) (m : Meta Bytes) (b : Body Bytes) → (push_empty_on id m b o).answer ≡ Err r → (push_empty_on id m b o).overlay ≡ o
  empty_refused id m b e = act_refused (kind_of b) id m _ o r e

  pub deletes_refused : (k : Kind) (id : ℤ) (m : Meta Bytes) → (delete_element_on k id m o).answer ≡ Err r → (delete_element_on k id m o).overlay ≡ o
  deletes_refused k id m e = act_refused k id m _ o r e

  pub staged_refused : (k : Kind) (x : Pending) (parts : Bytes) → (push_staged_on k x parts o).answer ≡ Err r → (push_staged_on k x parts o).overlay ≡ o
  staged_refused k x parts e = store_push_refused o k x.head x.meta (take x.used parts) r e
