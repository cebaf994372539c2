-- What is tested once, over the steps of a file: a state that is sound but for its count stays so, and chains for its texts serve those after it.
use Rattle.reader.specs.declared.RefusedAt.{RefusedAt}
use Rattle.std.specs.Prelude.{Ok, Err, Result, None, Option, Some}
use Prim.Native.Nat.{ℕ}
use mathlib.Core.Path.{◌≡◌, refl, sym, ◌∙◌, ap}
use Rattle.base.specs.Bytes.{Bytes}
use Rattle.base.proofs.Split.{by_bool, no}
use Rattle.refusal.specs.declared.Refusal.{Refusal}
use Rattle.refusal.specs.declared.Refusal.TheVariants as R
use Rattle.text_index.specs.Chained.{HandleChains, StoreChained}
use Rattle.reader.specs.State.{State, refusal_at, state_sound}
use Rattle.reader.specs.Event.{EventResult, stopped_at, event_on}
use Rattle.reader_events.specs.Runs.{RunGiven}
use Rattle.reader_events.proofs.Runs.{given_on}
use Rattle.reader_events.proofs.Chains.{event_chained}
use Rattle.file_reader.specs.File.{with_lines, twice_stop, unless_twice, markup_event, markup_refused}
use Rattle.file_reader.specs.Tags.{twice_of, twice_at}

-- ---- an attribute twice

-- the reader is stopped by 25 at the refusal's line
abbrev pub twice_stopped : EventResult → ℕ → EventResult
twice_stopped r n =
    record {
      state = record { overlay = r.state.overlay; reader = stopped_at r.state.reader R.NotMarkup n; parts = r.state.parts };
      answer = Err (refusal_at R.NotMarkup n);
    }

-- an answer says so, or stays
pub by_twice : {C : Type 0} (r : EventResult) (x : Result Unit RefusedAt)
    → (twice_at x ≡ None → unless_twice r x ≡ r → C)
    → ((n : ℕ) → twice_at x ≡ Some n → unless_twice r x ≡ twice_stopped r n → C)
    → C
unfolding twice_at
by_twice r (Ok tt) f g = f refl refl
by_twice {C} r (Err a) f g = go a.refusal f g
  where
    go : (x : Refusal) → (twice_of x a.line ≡ None → twice_stop r a x ≡ r → C) → ((n : ℕ) → twice_of x a.line ≡ Some n → twice_stop r a x ≡ twice_stopped r n → C) → C
    go R.NotEventLine f g = g a.line refl refl
    go R.Size f g = f refl refl
    go R.LongLine f g = f refl refl
    go R.NotText f g = f refl refl
    go R.Misplaced f g = f refl refl
    go R.OutsideSection f g = f refl refl
    go R.Missing f g = f refl refl
    go R.NotInteger f g = f refl refl
    go R.NotTimestamp f g = f refl refl
    go R.CoordinateRange f g = f refl refl
    go R.MemberType f g = f refl refl
    go (R.Regression v) f g = f refl refl
    go R.StringsFull f g = f refl refl
    go R.IdsFull f g = f refl refl
    go R.ArenaFull f g = f refl refl
    go R.TooManyParts f g = f refl refl
    go R.BadRecord f g = f refl refl
    go R.Unfinished f g = f refl refl
    go R.ShortOutput f g = f refl refl
    go R.NotInOrder f g = f refl refl
    go R.NoSuchNumber f g = f refl refl
    go R.Unsound f g = f refl refl
    go R.NotDegrees f g = f refl refl
    go R.BothForms f g = f refl refl
    go R.NotMarkup f g = f refl refl
    go R.UnmatchedEndTag f g = f refl refl

module _ (line : Bytes) (s : State) (x : EventResult) (e : x ≡ event_on line s) where
  pub event_once : twice_at x.answer ≡ None → x ≡ markup_event line s
  event_once h =
      by_twice (event_on line s) (event_on line s).answer
      (λ u w. e ∙ sym w)
      (λ n u w. let z : None ≡ Some n = sym h ∙ (ap (λ (z : EventResult). twice_at z.answer) e ∙ u) in no (cc))

  pub event_twice : (n : ℕ) → twice_at x.answer ≡ Some n → twice_stopped x n ≡ markup_event line s
  event_twice n h =
      by_twice (event_on line s) (event_on line s).answer
      (λ u w. let z : Some n ≡ None = sym h ∙ (ap (λ (z : EventResult). twice_at z.answer) e ∙ u) in no (cc))
      (λ m u w. let z : Some n ≡ Some m = sym h ∙ (ap (λ (z : EventResult). twice_at z.answer) e ∙ u) in
      let k : n ≡ m = cc in
      (λ i. twice_stopped (e i) (k i)) ∙ sym w)

-- ---- what is kept

-- sound but for its count, with chains for its texts
pub record Kept (c : HandleChains) (s : State) : Type 0 where
  pub given : RunGiven s
  pub chained : StoreChained c s.overlay.texts

-- the count of line feeds does not enter, nor does the stop mark
pub given_lines : (n : ℕ) {s : State} → RunGiven s → RunGiven (with_lines n s)
given_lines n g =
    record {
      overlay = g.overlay;
      pending = g.pending;
      bounds =
          record {
            overlay = g.bounds.overlay;
            reader = record { head = g.bounds.reader.head; meta = g.bounds.reader.meta; bytes = g.bounds.reader.bytes; room = g.bounds.reader.room };
          };
    }

abbrev pub with_stop : Option RefusedAt → State → State
with_stop m s =
    record {
      overlay = s.overlay;
      reader = record { place = s.reader.place; pending = s.reader.pending; lines = s.reader.lines; stop = m };
      parts = s.parts;
    }

pub given_stop : (m : Option RefusedAt) {s : State} → RunGiven s → RunGiven (with_stop m s)
given_stop m g =
    record {
      overlay = g.overlay;
      pending = g.pending;
      bounds =
          record {
            overlay = g.bounds.overlay;
            reader = record { head = g.bounds.reader.head; meta = g.bounds.reader.meta; bytes = g.bounds.reader.bytes; room = g.bounds.reader.room };
          };
    }

module _ (c : HandleChains) where
  pub kept_lines : (n : ℕ) {s : State} → Kept c s → Kept c (with_lines n s)
  kept_lines n k = record { given = given_lines n k.given; chained = k.chained }

  kept_stop : (m : Option RefusedAt) {s : State} → Kept c s → Kept c (with_stop m s)
  kept_stop m k = record { given = given_stop m k.given; chained = k.chained }

  pub kept_event : (line : Bytes) {s : State} → Kept c s → Kept c (event_on line s).state
  kept_event line {s} k = record { given = given_on s line k.given; chained = event_chained line s c k.given k.chained }

  pub kept_markup_event : (line : Bytes) {s : State} → Kept c s → Kept c (markup_event line s).state
  kept_markup_event line {s} k =
      by_twice (event_on line s) (event_on line s).answer
      (λ u w. rw w (kept_event line k))
      (λ n u w. rw w (kept_stop (Some (refusal_at R.NotMarkup n)) (kept_event line k)))

  pub kept_refused : (r : Refusal) {s : State} → Kept c s → Kept c (markup_refused r s).state
  kept_refused r {s} k =
      by_bool (state_sound s)
      (λ u. rw u (kept_stop _ k))
      (λ u. rw u k)
