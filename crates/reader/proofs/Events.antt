-- An accepted event is a turn of the acts' reader that its state stands for, by the direct calls that the turn makes. The overlay stays sound and so does what is staged,
-- whatever the count of lines; the reader too, until its count is at its largest.
use Rattle.reader.specs.declared.RefusedAt.{RefusedAt}
use Rattle.std.specs.Prelude.{None, Option, Some, Ok, Err}
use Prim.Native.Nat.{ℕ, ◌≤◌}
use mathlib.Core.Path.{◌≡◌, refl, sym, ◌∙◌, ap}
use mathlib.Core.Bool.{Bool, true, false, cond}
use mathlib.Core.Logic.{◌↔◌}
use mathlib.Core.List.{List, [], ◌∷◌}
use native.Mathlib.Omega.{arith}
use lib.Dec.{leb, eqb}
use borrow.Author.Tests.{le-leb, leb-true, eqb-true}
use Rattle.base.specs.Bytes.{Bytes, both, either}
use Rattle.base.proofs.Split.{by_bool, both_of, both_left, both_right, either_left, either_right, by_either, no, clash}
use Rattle.refusal.specs.Refusal.{number_of}
use Rattle.refusal.specs.First.{ConditionRow, first_of}
use Rattle.refusal.proofs.First.{before}
use Rattle.refusal.specs.declared.Refusal.{Refusal}
use Rattle.refusal.specs.declared.Refusal.TheVariants as R
use Rattle.interner.specs.Texts.{take_all_of}
use Rattle.interner.specs.Sound.{texts_of}
use Rattle.overlay.specs.Sound.{is_sound}
use Rattle.event_fields.specs.Field.{got, bad}
use Rattle.event_decision.specs.Decision.{Decision, refuses, moves, begins, deletes, tags, refers, joins, ends, decide}
use Rattle.event_decision.specs.Table.{refusal_in}
use Rattle.event_decision.proofs.Lawful.{decide_lawful}
use Rattle.event_decision.proofs.Table.{refusal_of, decide_first}
use Rattle.acts.proofs.Turns.{turn_first}
use Rattle.event_decision.proofs.Refusals.{decision_number, decide_within}
use Rattle.acts.specs.Turn.{Turn, turn_of, turn}
use Rattle.reader.specs.State.{State, next_line, stops_by, is_stopped, pending_sound, reader_sound, state_sound, refusal_at}
use Rattle.reader.specs.Given.{StateGiven}
use Rattle.reader.specs.Step.{goes, stops, step_of}
use Rattle.reader.specs.Event.{EventResult, refused_at, stopped_at, stepped, event_on, end_on}
use Rattle.reader.specs.Means.{reader_of}
use Rattle.reader.proofs.Answers.{answer_is, step_at, event_stopped, event_going, by_event, event_goes, end_stopped, same_refusal}
use Rattle.reader.specs.Table.{store_rows_of}
use Rattle.reader.proofs.Acts.{Acted, acted_fine, acted_texts}
use Rattle.reader.proofs.Held.{held_sound}
use Rattle.reader.proofs.Steps.{each_goes}
use Rattle.reader.proofs.Advances.{Advances, state_fine, advances}
use Rattle.reader.proofs.Tables.{refusal_by, step_first}

-- ---- an accepted event

-- the state t that an accepted event of a state s leaves
pub record TurnDone (line : Bytes) (s t : State) : Type 0 where
  pub comes : Turn
  pub is : turn line (reader_of s) ≡ got comes
  -- its reader stands for the turn's
  pub reader : reader_of t ≡ comes.reader
  -- its texts are those of the turn besides
  pub texts : texts_of t.overlay.texts ≡ take_all_of (texts_of s.overlay.texts) comes.texts
  -- and its overlay is that of the turn's direct calls
  pub acted : Acted s.overlay comes t.overlay
  pub given : StateGiven t
  pub sound : is_sound t.overlay ≡ true
  pub pending : pending_sound t.overlay.texts.strings t.reader.place.kind t.parts t.reader.pending ≡ true

module _ (line : Bytes) (s : State) (g : StateGiven s) where
  pub event_accepted : (event_on line s).answer ≡ Ok tt → TurnDone line s (event_on line s).state
  unfolding reader_of turn
  event_accepted a =
      let w = event_goes line s a in
      let l = w.1.0 in
      let d = decide line s.reader.place in
      let f : step_of d s ≡ goes l = w.1.1.0 in
      let x : Advances d s l = each_goes (rw f at (advances s g w.0 d (decide_lawful line s.reader.place))) in
      let q = acted_fine (state_fine s g w.0) x.acted in
      rw (ap (λ (z : EventResult). z.state) w.1.1.1) (record {
        comes = x.comes;
        is = x.is;
        reader = λ i. record { place = x.place i; staged = x.staged i };
        texts = acted_texts x.acted;
        acted = x.acted;
        given = record { overlay = q.bytes; reader = record { head = x.held.head; meta = x.held.meta; bytes = x.small; room = x.size ∙ g.reader.room } };
        sound = q.sound;
        pending = held_sound _ _ _ _ x.held;
      })

-- ---- the refusals of a step: 2 to 11, 23 and 24 of its decision, 12 to 16 of the store

-- each row that holds gives a refusal whose number is from lo to hi
abbrev pub Among : ℕ → ℕ → List (ConditionRow Refusal) → Type 0
Among lo hi [] = Unit {0}
Among lo hi (x ∷ rows) = ((lo ≤ number_of x.gives) × (number_of x.gives ≤ hi)) × Among lo hi rows

pub first_among : (lo hi : ℕ) (rows : List (ConditionRow Refusal)) (r : Refusal) → Among lo hi rows → first_of rows ≡ Some r → (lo ≤ number_of r) × (number_of r ≤ hi)
unfolding first_of
first_among lo hi [] r w e = no (cc)
first_among lo hi (x ∷ rows) r w e = by_bool x.holds (λ t. let z : x.gives ≡ r = cc (rw t at e) in rw (← z) w.0) (λ t. first_among lo hi rows r w.1 (rw t at e))

store_among : (d : Decision) (s : State) → Among 12 16 (store_rows_of d s)
unfolding store_rows_of
store_among (refuses r) s = tt
store_among (moves p) s = tt
store_among (begins true p id m b) s = ((omega arith, omega arith), ((omega arith, omega arith), ((omega arith, omega arith), ((omega arith, omega arith), tt))))
store_among (begins false p id m b) s = ((omega arith, omega arith), tt)
store_among (deletes k p id m) s = ((omega arith, omega arith), ((omega arith, omega arith), ((omega arith, omega arith), tt)))
store_among (tags p t) s = ((omega arith, omega arith), ((omega arith, omega arith), tt))
store_among (refers p z) s = ((omega arith, omega arith), tt)
store_among (joins p m) s = ((omega arith, omega arith), ((omega arith, omega arith), tt))
store_among (ends p) s = ((omega arith, omega arith), ((omega arith, omega arith), ((omega arith, omega arith), tt)))

refuses_in : (d : Decision) (r : Refusal) → refusal_in d ≡ Some r → d ≡ refuses r
refuses_in (refuses x) r e = cc
refuses_in (moves p) r e = no (cc)
refuses_in (begins b p id m x) r e = no (cc)
refuses_in (deletes k p id m) r e = no (cc)
refuses_in (tags p t) r e = no (cc)
refuses_in (refers p z) r e = no (cc)
refuses_in (joins p m) r e = no (cc)
refuses_in (ends p) r e = no (cc)

-- the numbers that stop today: 2 to 16, 23 to 26
abbrev pub stopping_number : ℕ → Bool
stopping_number n = either (both (leb 2 n) (leb n 16)) (both (leb 23 n) (leb n 26))

-- those of them that an event leaves: 2 to 16, 23, 24
abbrev pub event_number : ℕ → Bool
event_number n = either (both (leb 2 n) (leb n 16)) (either (eqb n 23) (eqb n 24))

pub stops_numbers : (r : Refusal) → stops_by r ≡ stopping_number (number_of r)
unfolding stops_by both either
stops_numbers R.Size = refl
stops_numbers R.LongLine = refl
stops_numbers R.NotText = refl
stops_numbers R.NotEventLine = refl
stops_numbers R.Misplaced = refl
stops_numbers R.OutsideSection = refl
stops_numbers R.Missing = refl
stops_numbers R.NotInteger = refl
stops_numbers R.NotTimestamp = refl
stops_numbers R.CoordinateRange = refl
stops_numbers R.MemberType = refl
stops_numbers (R.Regression v) = refl
stops_numbers R.StringsFull = refl
stops_numbers R.IdsFull = refl
stops_numbers R.ArenaFull = refl
stops_numbers R.TooManyParts = refl
stops_numbers R.BadRecord = refl
stops_numbers R.Unfinished = refl
stops_numbers R.ShortOutput = refl
stops_numbers R.NotInOrder = refl
stops_numbers R.NoSuchNumber = refl
stops_numbers R.Unsound = refl
stops_numbers R.NotDegrees = refl
stops_numbers R.BothForms = refl
stops_numbers R.NotMarkup = refl
stops_numbers R.UnmatchedEndTag = refl

-- what is refused before the store is of an event
decision_event : (n : ℕ) → decision_number n ≡ true → event_number n ≡ true
decision_event n e =
    by_either _ _ e
    (λ t. let l = leb-true n 11 (both_right _ _ t) in either_left _ _ (both_of (both_left _ _ t) (le-leb n 16 (omega arith))))
    (λ t. either_right (both (leb 2 n) (leb n 16)) t)

-- and what is of an event stops
pub event_stopping : (n : ℕ) → event_number n ≡ true → stopping_number n ≡ true
event_stopping n e =
    by_either _ _ e
    (λ t. either_left _ _ t)
    (λ t. either_right (both (leb 2 n) (leb n 16)) (by_either _ _ t
    (λ u. let l = eqb-true n 23 u in both_of (le-leb 23 n (omega arith)) (le-leb n 26 (omega arith)))
    (λ u. let l = eqb-true n 24 u in both_of (le-leb 23 n (omega arith)) (le-leb n 26 (omega arith)))))

-- what is refused before the store is none of the store's
decision_not_store : (n : ℕ) → decision_number n ≡ true → 12 ≤ n → n ≤ 16 → ⊥
decision_not_store n e a b =
    by_either _ _ e
    (λ t. let l = leb-true n 11 (both_right _ _ t) in omega arith)
    (λ t. by_either _ _ t (λ u. let l = eqb-true n 23 u in omega arith) (λ u. let l = eqb-true n 24 u in omega arith))

-- 22 is no stop mark
pub unsound_stops_not : stops_by R.Unsound ≡ false
unfolding stops_by
unsound_stops_not = refl

module _ (line : Bytes) (s : State) (e : state_sound s ≡ true) where
  abbrev d : Decision
  d = decide line s.reader.place

  -- a step is refused by its decision, 2 to 11, 23 and 24, or by the store, 12 to 16
  by_refusal : {C : Type 0} (r : Refusal) → step_at line s ≡ stops r
      → (decide line s.reader.place ≡ refuses r → C) → (12 ≤ number_of r → number_of r ≤ 16 → C) → C
  by_refusal {C} r f decided store = go (refusal_in d) refl
    where
      first : Some r ≡ before (refusal_in d) (first_of (store_rows_of d s))
      first = ap refusal_by (sym f) ∙ (step_first s e d (decide_lawful line s.reader.place)).first

      go : (x : Option Refusal) → refusal_in d ≡ x → C
      go (Some y) q = let z : Some r ≡ Some y = first ∙ ap (λ (o : Option Refusal). before o (first_of (store_rows_of d s))) q in decided (refuses_in d r (cc))
      go None q =
          let z : Some r ≡ first_of (store_rows_of d s) = first ∙ ap (λ (o : Option Refusal). before o (first_of (store_rows_of d s))) q in
          let w = first_among 12 16 (store_rows_of d s) r (store_among d s) (sym z) in
          store w.0 w.1

  -- so it is one of 2 to 16, 23 and 24
  pub step_number : (r : Refusal) → step_at line s ≡ stops r → event_number (number_of r) ≡ true
  step_number r f =
      by_refusal r f
      (λ q. decision_event (number_of r) (decide_within line s.reader.place r q))
      (λ a b. either_left _ _ (both_of (le-leb 2 (number_of r) (omega arith)) (le-leb (number_of r) 16 b)))

  pub step_stops : (r : Refusal) → step_at line s ≡ stops r → stops_by r ≡ true
  step_stops r f = stops_numbers r ∙ event_stopping (number_of r) (step_number r f)

  module _ (g : is_stopped s.reader.stop ≡ false) where
    -- an event that the acts' turn refuses is refused so, at its line; and each refusal before the store is the turn's
    pub event_bad : (r : Refusal) → turn line (reader_of s) ≡ bad r → (event_on line s).answer ≡ Err (refusal_at r (next_line s))
    unfolding reader_of step_of
    event_bad r h =
        let k : d ≡ refuses r = refuses_in d r (decide_first line s.reader.place ∙ (sym (turn_first line (reader_of s)) ∙ ap refusal_of h)) in
        ap (λ (z : EventResult). z.answer) (event_going line s e g) ∙ ap (λ (x : Decision). (stepped s (step_of x s)).answer) k

    -- a refusal is at the next line, is one of 2 to 16, 23 and 24, and stops the reader with itself
    pub event_stops : (r : Refusal) (n : ℕ) → (event_on line s).answer ≡ Err (refusal_at r n) → (step_at line s ≡ stops r) × (n ≡ next_line s)
    event_stops r n a =
        by_event line s
        (λ u w. clash e u)
        (λ x m u q t w. clash (rw q t) g)
        (λ x u q f w. let z = same_refusal (answer_is w a) in (rw z.0 at f, sym z.1))
        (λ l u q f w. let z = answer_is w a in no (cc))

    pub event_decided : (r : Refusal) → decision_number (number_of r) ≡ true → ((event_on line s).answer ≡ Err (refusal_at r (next_line s))) ↔ (turn line (reader_of s) ≡ bad r)
    unfolding turn turn_of reader_of
    event_decided r l = (
      λ a. by_refusal r (event_stops r (next_line s) a).0 (λ q. ap (λ (x : Decision). turn_of x (reader_of s)) q) (λ x y. absurd (decision_not_store (number_of r) l x y)),
      event_bad r,
    )

-- ---- "Nothing lent changes but the reader's own stop mark: a refused event, except for 22, stops its reader"

abbrev pub marked : State → Refusal → ℕ → State
marked s r n = record { overlay = s.overlay; reader = stopped_at s.reader r n; parts = s.parts }

module _ (line : Bytes) (s : State) where
  -- an event is refused 22, or with a stop mark
  pub by_refused : {C : Type 0} (r : Refusal) (n : ℕ) → (event_on line s).answer ≡ Err (refusal_at r n)
      → (state_sound s ≡ false → r ≡ R.Unsound → n ≡ 0 → (event_on line s).state ≡ s → C)
      → (state_sound s ≡ true → stops_by r ≡ true → (event_on line s).state ≡ marked s r n → C) → C
  by_refused r n a unsound refused =
      by_event line s
      (λ u w. let z = same_refusal (answer_is w a) in unsound u (sym z.0) (sym z.1) (ap (λ (z : EventResult). z.state) w))
      (λ x m u q t w. let z = same_refusal (answer_is w a) in let k : x ≡ r = z.0 in let j : m ≡ n = z.1 in
      let i : s.reader.stop ≡ Some (refusal_at r n) = q ∙ (λ y. Some (refusal_at (k y) (j y))) in
      refused u (rw (← k) t) (ap (λ (z : EventResult). z.state) w
      ∙ ap (λ (y : Option RefusedAt). record { overlay = s.overlay; reader = record { place = s.reader.place; pending = s.reader.pending; lines = s.reader.lines; stop = y }; parts = s.parts }) i))
      (λ x u q f w. let z = same_refusal (answer_is w a) in let k : x ≡ r = z.0 in let j : next_line s ≡ n = z.1 in
      refused u (rw (← k) (step_stops line s u x f)) (ap (λ (z : EventResult). z.state) w ∙ (λ y. marked s (k y) (j y))))
      (λ l u q f w. let z = answer_is w a in no (cc))

  -- 22 changes nothing; each other refusal its reader's mark alone, and that is the mark of a reader that was stopped
  pub event_refused_same : (r : Refusal) (n : ℕ) → (event_on line s).answer ≡ Err (refusal_at r n) → (event_on line s).state ≡ cond (stops_by r) (marked s r n) s
  event_refused_same r n a = by_refused r n a (λ u k j w. rw (k, unsound_stops_not) w) (λ u t w. rw t w)

  module _ (r : Refusal) (n : ℕ) (a : (event_on line s).answer ≡ Err (refusal_at r n)) (other_than_22 : r ≡ R.Unsound → ⊥) where
    abbrev after : State
    after = (event_on line s).state

    stays_stopped : {C : Type 0} → (state_sound after ≡ true → after.reader.stop ≡ Some (refusal_at r n) → stops_by r ≡ true → C) → C
    unfolding state_sound reader_sound
    stays_stopped f = by_refused r n a (λ u k j w. absurd (other_than_22 k)) (λ u t w. f (rw w u) (ap (λ (z : State). z.reader.stop) w) t)

    -- "and later events and the end repeat that number, line and HELD", and nothing changes any more
    pub event_repeats : (next : Bytes) → event_on next after ≡ refused_at after r n
    event_repeats next = stays_stopped (λ u m t. event_stopped next after r n u m t)

    pub end_repeats : end_on after ≡ refused_at after r n
    end_repeats = stays_stopped (λ u m t. end_stopped after r n u m t)
