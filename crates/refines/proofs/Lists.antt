-- Condition 2, equality with the Rust, over lists: a call in the domain tells the same on both sides and leaves the same; one outside leaves the library as it was, and is not given to
-- the Rust.
use Rattle.std.specs.Prelude.{Option, Result, Ok, Err}
use Rattle.std.proofs.Common.{◌≡◌, ℕ, ◌≤◌, true, false, not, eqb, ltb, List, [], ◌∷◌, ℤ, sym, refl, ap, ◌∙◌, subst, arith, w64, to_z, ltb-true, eq-eqb, ne_eqb, leb-true}
use borrow.Author.Tests.{not-true}
use Rattle.base.specs.Bytes.{Bytes, both, either, all}
use Rattle.base.proofs.Split.{by_bool, by_eq, either_right, either_false, both_left, both_right, both_of, by_either, clash, no}
use Rattle.base.proofs.Lists.{all_head, all_tail}
use Rattle.kind.specs.declared.Kind.{Kind}
use Rattle.kind.specs.declared.Kind.TheVariants as K
use Rattle.refusal.specs.Refusal.{number_of}
use Rattle.refusal.specs.declared.Refusal.{Refusal}
use Rattle.refusal.specs.declared.Refusal.TheVariants as R
use Rattle.nesting.specs.declared.Level.{Level}
use Rattle.nesting.specs.declared.Level.TheVariants as L
use Rattle.nesting.specs.declared.Place.{Place}
use Rattle.event.specs.Event.{Reading, event_of}
use Rattle.event.specs.Event as Line
use Rattle.event_decision.specs.Decision.{decide, decide_reading}
use Rattle.event_decision.proofs.Lawful.{decide_lawful}
use Rattle.model.specs.Record.{Meta, claim_of}
use Rattle.compact.specs.Cut.{pushed_record}
use Rattle.compact.specs.Held.{meta_of, head_in}
use Rattle.compact.specs.declared.ArenaMeta.{ArenaMeta}
use Rattle.compact.specs.declared.PushHead.{PushHead}
use Rattle.interner.proofs.Interns.{sound_parts}
use Rattle.kind_table.specs.Rows.{find}
use Rattle.kind_table.specs.Words.{rows_from, rows_of}
use Rattle.kind_store.specs.KindStore.{KindStore}
use Rattle.overlay.specs.Overlay.{Overlay, kind_store_of, emptied, empty}
use Rattle.overlay.specs.Sound.{Sound, is_sound}
use Rattle.overlay.specs.Given.{InBytes}
use Rattle.overlay.specs.Calls.{allow_on}
use Rattle.overlay.proofs.Answers.{by_kept, is_taken, allow_refused, allow_22_only, allow_taken}
use Rattle.overlay.proofs.Decides.{decides}
use Rattle.overlay_store.specs.Calls.{bytes_of}
use Rattle.overlay_store.proofs.Answers.{by_handle, by_pushed, by_deleted}
use Rattle.overlay_store.proofs.Keeps.{grown}
use Rattle.overlay_direct.specs.Calls.{intern_on, push_on, delete_on}
use Rattle.overlay_direct.proofs.Answers.{by_fault, push_refused, push_refusal, delete_refused, delete_refusal, intern_refused, intern_refusal}
use Rattle.overlay_direct.proofs.Keeps.{intern_kept, push_texts, delete_texts}
use Rattle.reader.specs.State.{reader_sound, stops_by, State, state_sound, is_stopped}
use Rattle.reader.specs.Given.{StateGiven}
use Rattle.reader.specs.Step.{Step}
use Rattle.reader.specs.Step as S
use Rattle.reader.specs.Event.{event_on, EventResult, stepped, end_at}
use Rattle.reader.proofs.Answers.{by_event, end_keeps, end_going}
use Rattle.reader.proofs.Acts.{Fine, more_strings}
use Rattle.reader.proofs.Events.{event_accepted, stops_numbers}
use Rattle.reader.proofs.Keeps.{ready_sound, Ready, fresh_ready, event_ready, ready_more}
use Rattle.reader.proofs.Steps.{EachStep, each_goes}
use Rattle.calls.specs.Ask.{put_at, Ask, interns, pushes, deletes, reads, ends, allows, Storage, state_of, with_state, with_overlay, started, leaves, after, ask_fits}
use Rattle.calls.proofs.Reflects.{reflects_empty}
use Rattle.calls.proofs.Stops.{event_stopped}
use Rattle.condition.specs.Condition3.{Start}
use Rattle.published.specs.Std.{get, contains}
use Rattle.published.specs.Parse.{CompactDiffOverlay}
use Rattle.published.specs.Parse as Parse
use Rattle.published.specs.XmlParse.{Error, CompactSink, Staging, DriveState, sink_with, end_test}
use Rattle.published.specs.XmlParse as X
use Rattle.refines.specs.OneKind.{SameFields, keyed, once}
use Rattle.refines.specs.Overlays.{fields_of, SameOverlay}
use Rattle.refines.specs.Driving.{drive_state}
use Rattle.refines.proofs.Sinks.{RustTurn, turn_from, driven, error_told_lem, done_as}
use Rattle.refines.specs.Driving as Driving
use Rattle.refines.proofs.Sinks as D
use Rattle.refines.specs.Staged.{SameReader}
use Rattle.refines.specs.Domain.{Past, event_past, past_after, event_outside, direct_outside, inside_of, reader_going, going, in_domain}
use Rattle.refines.specs.Told.{Told, handle, done, refused, refused_told, handle_told, kept_told, answer_told, told}
use Rattle.refines.specs.Calls.{RustHeld, rust_started, with_rust, unit_told, driver_turn, reading_told, reading_left, turn_left, rust_told, rust_leaves, domain, tolds, rust_after, rust_tolds}
use Rattle.refines.proofs.Texts.{texts_new}
use Rattle.refines.proofs.Driven.{drive_decided, NothingStaged}
use Rattle.refines.proofs.Turns.{Ordered, ordered, Follows, follows}
use Rattle.refines.proofs.Refusing.{refused_told_lem}
use Rattle.refines.proofs.Directs.{well_sound, push_done, push_refuses, delete_done, delete_refuses, intern_done, allow_done}
use Rattle.refines.proofs.Domains.{outside_of, told_inside, domain_is}

-- both sides hold the same, and each reader's storage is sound but for its count of lines
pub record Alike (l : Storage) (w : RustHeld) : Type 0 where
  pub overlay : SameOverlay l.overlay w.overlay
  pub ready : (n : ℕ) → Ready l.overlay.texts.strings (l.readers n) (l.parts n)
  pub readers : (n : ℕ) → SameReader (state_of n l) (w.states n) (w.staged n)

-- what was told before is what the readers' storage says
abbrev pub Known : Past → Storage → Type 0
Known p l = (n : ℕ) → (is_stopped (l.readers n).stop ≡ p.stopped n) × ((l.readers n).lines ≡ p.lines n)

-- a call that is compared
abbrev Agree : Ask → Storage → RustHeld → Type 0
Agree c l w = (rust_told c w ≡ told c l) × Alike (leaves c l) (rust_leaves c w)

-- a reader is the same whatever overlay it reads into
other_overlay : (o q : Overlay) (l : Storage) (m : ℕ) (d : DriveState) (st : Option Staging)
    → SameReader (record { overlay = o; reader = l.readers m; parts = l.parts m }) d st → SameReader (record { overlay = q; reader = l.readers m; parts = l.parts m }) d st
other_overlay o q l m d st s = record { state = s.state; staged = s.staged }

-- ---- one reader's state put anew

module _ (l : Storage) (n : ℕ) (t : State) (w : RustHeld) where
  put_alike : SameOverlay t.overlay w.overlay → Ready t.overlay.texts.strings t.reader t.parts → SameReader t (w.states n) (w.staged n)
      → ((m : ℕ) → (m ≡ n → ⊥) → Ready t.overlay.texts.strings (l.readers m) (l.parts m))
      → ((m : ℕ) → (m ≡ n → ⊥) → SameReader (record { overlay = t.overlay; reader = l.readers m; parts = l.parts m }) (w.states m) (w.staged m)) → Alike (with_state n t l) w
  put_alike o r s rs ss =
      record {
        overlay = o;
        ready = λ m. by_eq m n (λ e. rw (eq-eqb m n e) r) (λ e. rw (ne_eqb m n e) (rs m e));
        readers = λ m. by_eq m n (λ e. rw (eq-eqb m n e, e) (own s)) (λ e. rw (ne_eqb m n e) (ss m e));
      }
    where
      own : SameReader t (w.states n) (w.staged n) → SameReader (record { overlay = t.overlay; reader = t.reader; parts = t.parts }) (w.states n) (w.staged n)
      own x = x

-- ---- a line, as the Rust takes it

ordered_reading : (x : Reading) (p : Place) → Ordered p (decide_reading x p)
ordered_reading (Line.reads e) p = ordered e p
ordered_reading (Line.refused r) p = tt

ordered_line : (line : Bytes) (p : Place) → Ordered p (decide line p)
unfolding decide
ordered_line line p = ordered_reading (event_of line) p

-- a turn of a reader's driver, as it goes on or stops
abbrev turn_on : ℕ → Reading → RustHeld → RustTurn
turn_on n (Line.reads e) w = driven (driver_turn n e w)
turn_on n (Line.refused r) w = D.stops r

abbrev turn_told : RustTurn → Told
turn_told (D.goes d s) = done
turn_told (D.stops r) = refused_told r

abbrev turn_after : ℕ → RustTurn → RustHeld → RustHeld
turn_after n (D.goes d s) w = record { overlay = s.overlay; states = put_at n d w.states; staged = put_at n s.staging w.staged }
turn_after n (D.stops r) w = w

turn_told_lem : (n : ℕ) (x : Reading) (w : RustHeld) → reading_told n x w ≡ turn_told (turn_on n x w)
turn_told_lem n (Line.refused r) w = refl
turn_told_lem n (Line.reads e) w = go (driver_turn n e w).state (driver_turn n e w).sink (driver_turn n e w).result
  where
    go : (d : DriveState) (s : CompactSink) (r : Result (Unit {0}) Error) → unit_told r ≡ turn_told (turn_from d s r)
    go d s (Ok u) = refl
    go d s (Err e) = error_told_lem e

turn_left_lem : (n : ℕ) (x : Reading) (w : RustHeld) → reading_left n x w ≡ turn_after n (turn_on n x w) w
turn_left_lem n (Line.refused r) w = refl
turn_left_lem n (Line.reads e) w = go (driver_turn n e w).state (driver_turn n e w).sink (driver_turn n e w).result
  where
    go : (d : DriveState) (s : CompactSink) (r : Result (Unit {0}) Error) → turn_left n d s r w ≡ turn_after n (turn_from d s r) w
    go d s (Ok u) = refl
    go d s (Err e) = refl

reading_decided : (n : ℕ) (x : Reading) (p : Place) (w : RustHeld) → w.states n ≡ drive_state p → NothingStaged p.level p.section (sink_with w.overlay (w.staged n))
    → turn_on n x w ≡ done_as (decide_reading x p) (sink_with w.overlay (w.staged n))
unfolding done_as
reading_decided n (Line.reads e) p w q h = rw q (drive_decided e p (sink_with w.overlay (w.staged n)) h)
reading_decided n (Line.refused r) p w q h = refl

line_decided : (n : ℕ) (line : Bytes) (p : Place) (w : RustHeld) → w.states n ≡ drive_state p → NothingStaged p.level p.section (sink_with w.overlay (w.staged n))
    → turn_on n (event_of line) w ≡ done_as (decide line p) (sink_with w.overlay (w.staged n))
unfolding decide
line_decided n line p w q h = reading_decided n (event_of line) p w q h

-- ---- an event

-- the number of a stop mark is not 22
stops_number : (r : Refusal) → stops_by r ≡ true → eqb (number_of r) 22 ≡ false
stops_number r t =
    ne_eqb (number_of r) 22 (λ e. by_either _ _ (sym (stops_numbers r) ∙ t)
    (λ s. let l = leb-true (number_of r) 16 (both_right _ _ s) in omega arith)
    (λ s. let l = leb-true 23 (number_of r) (both_left _ _ s) in omega arith))

-- an event of one reader tells nothing of another
past_other : (n m : ℕ) → (m ≡ n → ⊥) → (t : Told) (p : Past) → ((event_past n t p).stopped m ≡ p.stopped m) × ((event_past n t p).lines m ≡ p.lines m)
past_other n m e (handle x) p = (refl, refl)
past_other n m e done p = (refl, rw (ne_eqb m n e))
past_other n m e (refused x y) p = (rw (ne_eqb m n e), refl)

module _ (l : Storage) (w : RustHeld) (h : Alike l w) (n : ℕ) (line : Bytes) where
  abbrev s : State
  s = state_of n l

  abbrev sink : CompactSink
  sink = sink_with w.overlay (w.staged n)

  given : StateGiven s
  given = record { overlay = h.overlay.bytes; reader = (h.ready n).given }

  fine : Fine l.overlay
  fine = record { sound = (decides l.overlay h.overlay.bytes).1 h.overlay.sound; bytes = h.overlay.bytes }

  turned : turn_on n (event_of line) w ≡ done_as (decide line s.reader.place) sink
  turned = line_decided n line s.reader.place w (h.readers n).state (λ a b. (h.readers n).staged ∙ rw (a, b))

  -- refused: nothing changes but the stop mark
  same_after : (event_on line s).state.overlay ≡ s.overlay → (event_on line s).state.reader.place ≡ s.reader.place → (event_on line s).state.reader.pending ≡ s.reader.pending → (event_on line s).state.parts ≡ s.parts
      → Alike (with_state n (event_on line s).state l) w
  same_after o p x q =
      let t = (event_on line s).state in
      put_alike l n t w (rw o h.overlay) (event_ready line s fine (h.ready n))
      (record { state = rw p (h.readers n).state; staged = rw (p, x, q) (h.readers n).staged })
      (λ m e. rw o (h.ready m)) (λ m e. other_overlay l.overlay t.overlay l m (w.states m) (w.staged m) (h.readers m))

  -- what is left of a result that keeps all but the stop mark
  kept : (x : EventResult) → event_on line s ≡ x → x.state.overlay ≡ s.overlay → x.state.reader.place ≡ s.reader.place → x.state.reader.pending ≡ s.reader.pending → x.state.parts ≡ s.parts
      → Alike (with_state n (event_on line s).state l) w
  kept x a o p q r =
      same_after (ap (λ (z : EventResult). z.state.overlay) a ∙ o) (ap (λ (z : EventResult). z.state.reader.place) a ∙ p)
      (ap (λ (z : EventResult). z.state.reader.pending) a ∙ q) (ap (λ (z : EventResult). z.state.parts) a ∙ r)

  -- sound, while the count of its lines is below its largest
  sound_below : (p : Past) → Known p l → ltb (p.lines n) 18446744073709551615 ≡ true → state_sound s ≡ true
  sound_below p k t = ready_sound s fine (h.ready n) (omega (arith, ltb-true (p.lines n) 18446744073709551615 t, (k n).1))

  event_outside_lem : (p : Past) → Known p l → both (reader_going n p) (told_inside event_outside (told (reads n line) l)) ≡ false → Alike (leaves (reads n line) l) w
  unfolding state_sound reader_sound
  event_outside_lem p v c =
      by_event line s
      (λ u a. kept _ a refl refl refl refl)
      (λ r m u q t a. kept _ a refl refl refl refl)
      (λ r u q f a. kept _ a refl refl refl refl)
      (λ x u q f a.
      let below : ltb (p.lines n) 18446744073709551615 ≡ true = rw (v n).1 at (both_right _ _ (both_right _ _ u)) in
      let z : both (reader_going n p) (told_inside event_outside (told (reads n line) l)) ≡ true = rw (ap (λ (z : EventResult). z.answer) a) (both_of (both_of (rw (← (v n).0, q)) below) refl) in
      clash z c)

  event_inside : (p : Past) → Known p l → both (reader_going n p) (told_inside event_outside (told (reads n line) l)) ≡ true → Agree (reads n line) l w
  event_inside p v c =
      by_event line s
      (λ u a. clash (sound_below p v (both_right _ _ (both_left _ _ c))) u)
      (λ r m u q t a. let z : not (p.stopped n) ≡ false = rw (← (v n).0, q, t) in clash (both_left _ _ (both_left _ _ c)) z)
      (λ r u q f a.
      let i : inside_of event_outside (number_of r) ≡ true = rw (ap (λ (z : EventResult). z.answer) a) at (both_right _ _ c) in
      let p = s.reader.place in
      let t : turn_on n (event_of line) w ≡ D.stops r =
      turned ∙ refused_told_lem s given u (well_sound l.overlay h.overlay.sound h.overlay.bytes) sink h.overlay.core (h.readers n).staged (decide line p) (decide_lawful line p) (ordered_line line p) r f i in
      rw (turn_told_lem n (event_of line) w, turn_left_lem n (event_of line) w, t, ap (λ (z : EventResult). z.answer) a) (refl, kept _ a refl refl refl refl))
      (λ x u q f a.
      let p = s.reader.place in
      let v = each_goes (subst (λ (y : Step). EachStep (Follows (decide line p) sink) y) f
      (follows s given u (well_sound l.overlay h.overlay.sound h.overlay.bytes) sink h.overlay.core (h.readers n).staged (decide line p) (decide_lawful line p) (ordered_line line p))) in
      let t : turn_on n (event_of line) w ≡ D.goes (drive_state x.place) v.sink = turned ∙ v.done in
      let took = event_accepted line s given (ap (λ (z : EventResult). z.answer) a) in
      let same : x.overlay ≡ (event_on line s).state.overlay = sym (ap (λ (z : EventResult). z.state.overlay) a) in
      let bytes : InBytes x.overlay = rw same took.given.overlay in
      let sound : Sound x.overlay = (decides x.overlay bytes).0 (rw same took.sound) in
      let ready : Ready x.overlay.texts.strings (stepped s (S.goes x)).state.reader x.parts = rw a at (event_ready line s fine (h.ready n)) in
      let more : l.overlay.texts.strings ≤ x.overlay.texts.strings = rw same (more_strings l.overlay (event_on line s).state.overlay took.comes.texts took.texts) in
      rw (turn_told_lem n (event_of line) w, turn_left_lem n (event_of line) w, t, a) (
        refl,
        put_alike l n (stepped s (S.goes x)).state (turn_after n (D.goes (drive_state x.place) v.sink) w)
            (record { sound = sound; bytes = bytes; core = v.core })
            ready
            (rw (eq-eqb n n refl) (record { state = refl; staged = v.staged }))
            (λ m e. ready_more l.overlay.texts.strings (l.readers m) (l.parts m) (h.ready m) x.overlay.texts.strings more)
            (λ m e. rw (ne_eqb m n e) (other_overlay l.overlay x.overlay l m (w.states m) (w.staged m) (h.readers m))),
      ))

  -- what is told is what the reader's storage says then
  own_known : (p : Past) → Known p l
      → (is_stopped (event_on line s).state.reader.stop ≡ (event_past n (told (reads n line) l) p).stopped n) × ((event_on line s).state.reader.lines ≡ (event_past n (told (reads n line) l) p).lines n)
  unfolding both either
  own_known p v =
      by_event line s
      (λ u a. rw (a, eq-eqb n n refl) ((v n).0 ∙ sym (either_false (p.stopped n)), (v n).1))
      (λ r m u q t a. rw (a, eq-eqb n n refl, stops_number r t) ((ap is_stopped q ∙ t) ∙ sym (either_right (p.stopped n) refl), (v n).1))
      (λ r u q f a.
      let y : stops_by r ≡ true = (rw (a, q) at (event_stopped line s u)) in
      rw (a, eq-eqb n n refl, stops_number r y) (y ∙ sym (either_right (p.stopped n) refl), (v n).1))
      (λ x u q f a. rw (a, eq-eqb n n refl) (sym q ∙ (v n).0, omega (arith, (v n).1)))

  event_known : (p : Past) → Known p l → Known (event_past n (told (reads n line) l) p) (leaves (reads n line) l)
  event_known p v m =
      by_eq m n
      (λ e. rw (e, eq-eqb n n refl) (own_known p v))
      (λ e. rw (ne_eqb m n e, (past_other n m e (told (reads n line) l) p).0, (past_other n m e (told (reads n line) l) p).1) (v m))

-- ---- an end

end_level : (x : Level) (d : X.Level) → d ≡ Driving.level x → (s : State) → unit_told (end_test d) ≡ answer_told (end_at x s).answer
end_level L.Doc d e s = rw e
end_level L.Root d e s = rw e
end_level L.Section d e s = rw e
end_level L.Element d e s = rw e
end_level L.Leaf d e s = rw e
end_level L.Other d e s = rw e
end_level L.Done d e s = rw e

module _ (l : Storage) (w : RustHeld) (h : Alike l w) (n : ℕ) where
  end_same : Alike (leaves (ends n) l) w
  end_same =
      let s = state_of n l in
      let k = end_keeps s in
      rw k (put_alike l n s w h.overlay (h.ready n) (h.readers n) (λ m e. h.ready m) (λ m e. h.readers m))

  end_inside : (p : Past) → Known p l → reader_going n p ≡ true → Agree (ends n) l w
  end_inside p v c =
      let s = state_of n l in
      let u = sound_below l w h n [] p v (both_right _ _ c) in
      let q : is_stopped s.reader.stop ≡ false = (v n).0 ∙ not-true (p.stopped n) (both_left _ _ c) in
      (rw (end_going s u q) (end_level s.reader.place.level (w.states n).level (ap (λ (d : DriveState). d.level) (h.readers n).state) s), end_same)

-- ---- a direct call

-- of the refusals that a direct call gives, 12 alone is inside
module _ (o : Overlay) (sound : is_sound o ≡ true) (r : Refusal) (i : inside_of direct_outside (number_of r) ≡ true) where
  abbrev Regresses : Type 0
  Regresses = (v : ℤ) × (r ≡ R.Regression v)

  push_inside : (k : Kind) (h : PushHead) (m : ArenaMeta) (parts : Bytes) → (push_on k h m parts o).answer ≡ Err r → Regresses
  unfolding inside_of all both
  push_inside k h m parts e =
      push_refusal k h m parts o r e
      (λ u q. clash sound u)
      (λ u q. by_fault o.texts.strings (pushed_record k (head_in k h) (meta_of m) parts) r q (λ z. clash (rw z at i) refl) (λ z. clash (rw z at i) refl) (λ z. clash (rw z at i) refl) (λ z. clash (rw z at i) refl))
      (λ u g a. by_pushed k o.setting (kind_store_of k o) (to_z w64 h.id) (claim_of (meta_of m)) (bytes_of k h m parts) r a (λ v q. (v, q)) (λ q. clash (rw q at i) refl) (λ q. clash (rw q at i) refl))

  delete_inside : (k : Kind) (id : ℤ) (m : Meta ℕ) → (delete_on k id m o).answer ≡ Err r → Regresses
  unfolding inside_of all both
  delete_inside k id m e =
      delete_refusal k id m o r e
      (λ u q. clash sound u)
      (λ u g q. clash (rw q at i) refl)
      (λ u g a. by_deleted k o.setting (kind_store_of k o) id (claim_of m) r a (λ v q. (v, q)) (λ q. clash (rw q at i) refl))

  intern_inside : (t : Bytes) → (intern_on t o).answer ≡ Err r → ⊥
  unfolding inside_of all both
  intern_inside t e = intern_refusal t o r e (λ u q. clash sound u) (λ u g q. clash (rw q at i) refl) (λ u g f q. clash (rw q at i) refl)

  allow_inside : (setting : ℕ) → (allow_on setting o).answer ≡ Err r → ⊥
  allow_inside setting e = clash sound (allow_22_only setting o r e).1

-- no text is lost
more_after : (t : Bytes) (o : Overlay) → Sound o → o.texts.strings ≤ (intern_on t o).overlay.texts.strings
more_after t o w =
    by_handle (intern_on t o).answer
    (λ n e. rw (intern_kept t o n e).left (grown o.texts t (sound_parts o.texts w.strings)).more)
    (λ r e. rw (intern_refused t o r e) (omega arith))

module _ (l : Storage) (w : RustHeld) (h : Alike l w) where
  tested : is_sound l.overlay ≡ true
  tested = (decides l.overlay h.overlay.bytes).1 h.overlay.sound

  -- the overlay put anew, with no text lost
  put_overlay : (o : Overlay) (r : CompactDiffOverlay) → SameOverlay o r → l.overlay.texts.strings ≤ o.texts.strings → Alike (with_overlay o l) (with_rust r w)
  put_overlay o r same more =
      record {
        overlay = same;
        ready = λ n. ready_more l.overlay.texts.strings (l.readers n) (l.parts n) (h.ready n) o.texts.strings more;
        readers = λ n. other_overlay l.overlay o l n (w.states n) (w.staged n) (h.readers n);
      }

  push_agrees : (k : Kind) (p : PushHead) (m : ArenaMeta) (parts : Bytes) → ask_fits (pushes k p m parts) ≡ true → told_inside direct_outside (told (pushes k p m parts) l) ≡ true → Agree (pushes k p m parts) l w
  unfolding ask_fits
  push_agrees k p m parts f i =
      let o = l.overlay in
      let fh = both_left _ _ f in let fm = both_left _ _ (both_right _ _ f) in let fb = both_right _ _ (both_right _ _ f) in
      by_kept (push_on k p m parts o).answer
      (λ e. let d = push_done o w.overlay h.overlay k p m parts fh fm fb e in
      rw (d.1.0, is_taken (push_on k p m parts o).answer e) (refl, put_overlay _ _ d.1.1 (rw (push_texts k p m parts o) (omega arith))))
      (λ x e. let v = push_inside o tested x (rw e at i) k p m parts e in
      let q : (push_on k p m parts o).answer ≡ Err (R.Regression v.0) = e ∙ ap Err v.1 in
      rw (push_refuses o w.overlay h.overlay k p m parts fh fm fb v.0 q, q, push_refused k p m parts o _ q) (refl, h))

  delete_agrees : (k : Kind) (n : ℕ) (m : ArenaMeta) → ask_fits (deletes k n m) ≡ true → told_inside direct_outside (told (deletes k n m) l) ≡ true → Agree (deletes k n m) l w
  unfolding ask_fits
  delete_agrees k n m f i =
      let o = l.overlay in
      let fi = ltb-true _ _ (both_left _ _ f) in let fm = both_right _ _ f in
      by_kept (delete_on k (to_z w64 n) (meta_of m) o).answer
      (λ e. let d = delete_done o w.overlay h.overlay k n m fi fm e in
      rw (d.1.0, is_taken (delete_on k (to_z w64 n) (meta_of m) o).answer e) (refl, put_overlay _ _ d.1.1 (rw (delete_texts k (to_z w64 n) (meta_of m) o) (omega arith))))
      (λ x e. let v = delete_inside o tested x (rw e at i) k (to_z w64 n) (meta_of m) e in
      let q : (delete_on k (to_z w64 n) (meta_of m) o).answer ≡ Err (R.Regression v.0) = e ∙ ap Err v.1 in
      rw (delete_refuses o w.overlay h.overlay k n m fi fm v.0 q, q, delete_refused k (to_z w64 n) (meta_of m) o _ q) (refl, h))

  intern_agrees : (t : Bytes) → ask_fits (interns t) ≡ true → told_inside direct_outside (told (interns t) l) ≡ true → Agree (interns t) l w
  unfolding ask_fits
  intern_agrees t f i =
      let o = l.overlay in
      by_handle (intern_on t o).answer
      (λ n e. let d = intern_done o w.overlay h.overlay t n f e in (rw e (ap handle d.0), put_overlay _ _ d.1 (more_after t o h.overlay.sound)))
      (λ x e. absurd (intern_inside o tested x (rw e at i) t e))

  allow_agrees : (setting : ℕ) → told_inside direct_outside (told (allows setting) l) ≡ true → Agree (allows setting) l w
  allow_agrees setting i =
      let o = l.overlay in
      by_kept (allow_on setting o).answer
      (λ e. (rw (is_taken (allow_on setting o).answer e), put_overlay _ _ (allow_done o w.overlay h.overlay setting e) (rw (allow_taken setting o e).1 (omega arith))))
      (λ x e. absurd (allow_inside o tested x (rw e at i) setting e))

-- ---- one call

-- a reply outside is a refusal
kept_outside : (x : Result Unit Refusal) → both true (told_inside direct_outside (kept_told x)) ≡ false → (y : Refusal) × (x ≡ Err y)
unfolding both
kept_outside (Ok tt) e = clash refl e
kept_outside (Err y) e = (y, refl)

handle_outside : (x : Result ℕ Refusal) → both true (told_inside direct_outside (handle_told x)) ≡ false → (y : Refusal) × (x ≡ Err y)
unfolding both
handle_outside (Ok n) e = clash refl e
handle_outside (Err y) e = (y, refl)

step_inside : (c : Ask) (p : Past) (l : Storage) (w : RustHeld) → Alike l w → Known p l → ask_fits c ≡ true → both (going c p) (told_inside (outside_of c) (told c l)) ≡ true → Agree c l w
step_inside (interns t) p l w h v f i = intern_agrees l w h t f (both_right _ _ i)
step_inside (pushes k q m parts) p l w h v f i = push_agrees l w h k q m parts f (both_right _ _ i)
step_inside (deletes k n m) p l w h v f i = delete_agrees l w h k n m f (both_right _ _ i)
step_inside (reads n line) p l w h v f i = event_inside l w h n line p v i
step_inside (ends n) p l w h v f i = end_inside l w h n p v (both_left _ _ i)
step_inside (allows setting) p l w h v f i = allow_agrees l w h setting (both_right _ _ i)

step_outside : (c : Ask) (p : Past) (l : Storage) (w : RustHeld) → Alike l w → Known p l → both (going c p) (told_inside (outside_of c) (told c l)) ≡ false → Alike (leaves c l) w
step_outside (interns t) p l w h v i = let x = handle_outside (intern_on t l.overlay).answer i in rw (intern_refused t l.overlay x.0 x.1) h
step_outside (pushes k q m parts) p l w h v i = let x = kept_outside (push_on k q m parts l.overlay).answer i in rw (push_refused k q m parts l.overlay x.0 x.1) h
step_outside (deletes k n m) p l w h v i = let x = kept_outside (delete_on k (to_z w64 n) (meta_of m) l.overlay).answer i in rw (delete_refused k (to_z w64 n) (meta_of m) l.overlay x.0 x.1) h
step_outside (reads n line) p l w h v i = event_outside_lem l w h n line p v i
step_outside (ends n) p l w h v i = end_same l w h n
step_outside (allows setting) p l w h v i = let x = kept_outside (allow_on setting l.overlay).answer i in rw (allow_refused setting l.overlay x.0 x.1) h

step_known : (c : Ask) (p : Past) (l : Storage) (w : RustHeld) → Alike l w → Known p l → Known (past_after c (told c l) p) (leaves c l)
step_known (interns t) p l w h v = v
step_known (pushes k q m parts) p l w h v = v
step_known (deletes k n m) p l w h v = v
step_known (reads n line) p l w h v = event_known l w h n line p v
step_known (ends n) p l w h v = λ m. by_eq m n (λ e. rw (eq-eqb m n e, end_keeps (state_of n l), ← e) (v m)) (λ e. rw (ne_eqb m n e) (v m))
step_known (allows setting) p l w h v = v

-- ---- a list

pub lists_agree : (cs : List Ask) (p : Past) (l : Storage) (w : RustHeld) → Alike l w → Known p l → all ask_fits cs ≡ true
    → (rust_tolds w (domain p l cs) ≡ tolds p l cs) × Alike (after l cs) (rust_after w (domain p l cs))
unfolding rust_tolds domain tolds after rust_after
lists_agree [] p l w h v f = (refl, h)
lists_agree (c ∷ cs) p l w h v f =
    let next = step_known c p l w h v in
    by_bool (in_domain c p l)
    (λ i. let x = step_inside c p l w h v (all_head ask_fits c cs f) (sym (domain_is c p l) ∙ i) in
    let y = lists_agree cs (past_after c (told c l) p) (leaves c l) (rust_leaves c w) x.1 next (all_tail ask_fits c cs f) in
    rw i (cc (x.0, y.0), y.1))
    (λ i. let y = lists_agree cs (past_after c (told c l) p) (leaves c l) w (step_outside c p l w h v (sym (domain_is c p l) ∙ i)) next (all_tail ask_fits c cs f) in rw i y)

-- ---- the start

empty_kind : (s : KindStore) → SameFields (emptied s) Parse.no_fields
unfolding get contains rows_of rows_from find keyed once
empty_kind s = record { arena = refl; within = omega arith; offsets = λ id f. refl; deleted = λ id f. refl; floors = λ id f. refl; index_keyed = refl; deleted_once = refl }

pub started_alike : (setting : ℕ) (o : Overlay) (ps : ℕ → Bytes) → Start o ps → Alike (started setting o ps) (rust_started setting)
started_alike setting o ps start =
    let w = reflects_empty false setting o (λ x. no cc) start.sizes start.bytes in
    let e = (decides (empty setting o) w.bytes).1 w.sound in
    record {
      overlay = record { sound = w.sound; bytes = w.bytes; core = record { kinds = kinds; texts = rw w.texts texts_new; allows = refl } };
      ready = λ n. fresh_ready (empty setting o) e (ps n) (start.parts.bytes n) (start.parts.room n);
      readers = λ n. record { state = refl; staged = refl };
    }
  where
    kinds : (k : Kind) → SameFields (kind_store_of k (empty setting o)) (fields_of k (rust_started setting).overlay)
    kinds K.Node = empty_kind o.nodes
    kinds K.Way = empty_kind o.ways
    kinds K.Relation = empty_kind o.relations
