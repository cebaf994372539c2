-- The refusals that stop a reader are exactly those that an event leaves as a stop mark, and those of a file, which no event leaves.
use Rattle.reader.specs.declared.RefusedAt.{RefusedAt}
use Rattle.std.specs.Prelude.{Option, Some, None}
use Prim.Native.Nat.{ℕ}
use mathlib.Core.Path.{◌≡◌, refl, sym, ◌∙◌, ap, subst}
use mathlib.Core.Bool.{Bool, true, false}
use mathlib.Core.List.{List, [], ◌∷◌}
use mathlib.Core.Logic.{◌↔◌}
use lib.Dec.{eqb, leb}
use native.Mathlib.Omega.{arith}
use borrow.Author.Tests.{eqb-true, leb-true, le-leb}
use Rattle.base.specs.Bytes.{Bytes, both, either, all}
use Rattle.base.proofs.Split.{by_either, either_right, both_of, both_left, both_right, clash, no}
use Rattle.base.proofs.Lists.{all_head, all_tail}
use Rattle.refusal.specs.Refusal.{number_of}
use Rattle.refusal.specs.declared.Refusal.{Refusal}
use Rattle.refusal.specs.declared.Refusal.TheVariants as R
use Rattle.reader.specs.State.{State, stops_by, is_stopped, refusal_at}
use Rattle.reader.specs.Event.{event_on}
use Rattle.reader.proofs.Answers.{by_answer, event_counts}
use Rattle.reader.proofs.Events.{by_refused, stopping_number, event_number, stops_numbers, event_stopping, step_number, event_stops}
use Rattle.trial.specs.Stops.{StopRow, state_before, is_going, has_mark, leaves_number, has_number, stop_rows}
use Rattle.trial.proofs.Claim.{stops_claim}

-- an event leaves a stop mark of this number in a reader that had none
pub record Leaves (n : ℕ) : Type 0 where
  pub line : Bytes
  pub state : State
  pub mark : RefusedAt
  pub going : state.reader.stop ≡ None
  pub left : (event_on line state).state.reader.stop ≡ Some mark
  pub number : number_of mark.refusal ≡ n

-- ---- an event leaves none but 2 to 16, 23 and 24

module _ {n : ℕ} (l : Leaves n) where
  abbrev after : State
  after = (event_on l.line l.state).state

  left_number : event_number (number_of l.mark.refusal) ≡ true
  left_number =
      by_answer (event_on l.line l.state).answer
      (λ a. let z : None ≡ Some l.mark = sym (event_counts l.line l.state a).1 ∙ l.left in no (cc))
      (λ r m a. by_refused l.line l.state r m a
      (λ u k j w. let z : None ≡ Some l.mark = sym (ap (λ (s : State). s.reader.stop) w ∙ l.going) ∙ l.left in no (cc))
      (λ u t w.
      let z : Some (refusal_at r m) ≡ Some l.mark = sym (ap (λ (s : State). s.reader.stop) w) ∙ l.left in
      let y : refusal_at r m ≡ l.mark = cc in
      let g : is_stopped l.state.reader.stop ≡ false = rw l.going in
      subst (λ (x : RefusedAt). event_number (number_of x.refusal) ≡ true) y (step_number l.line l.state u r (event_stops l.line l.state u g r m a).0)))

  pub leaves_number_of : event_number n ≡ true
  leaves_number_of = subst (λ (i : ℕ). event_number i ≡ true) l.number left_number

-- ---- and each of these is left

none_there : (m : Option RefusedAt) → is_going m ≡ true → m ≡ None
none_there None e = refl
none_there (Some a) e = clash e refl

mark_there : (n : ℕ) (m : Option RefusedAt) → has_mark n m ≡ true → (a : RefusedAt) × ((m ≡ Some a) × (number_of a.refusal ≡ n))
mark_there n None e = clash e refl
mark_there n (Some a) e = (a, (refl, eqb-true _ _ e))

left_there : (x : StopRow) → leaves_number x ≡ true → Leaves x.number
unfolding leaves_number
left_there x h =
    let y = mark_there x.number (event_on x.line (state_before x)).state.reader.stop (both_right _ _ h) in
    record { line = x.line; state = state_before x; mark = y.0; going = none_there (state_before x).reader.stop (both_left _ _ h); left = y.1.0; number = y.1.1 }

found : (xs : List StopRow) (n : ℕ) → all leaves_number xs ≡ true → has_number n xs ≡ true → Leaves n
unfolding has_number
found [] n h e = clash e refl
found (x ∷ xs) n h e =
    by_either (eqb x.number n) (has_number n xs) e
    (λ t. subst Leaves (eqb-true x.number n t) (left_there x (all_head leaves_number x xs h)))
    (λ t. found xs n (all_tail leaves_number x xs h) t)

-- the refusals of a file: 25, 26
abbrev pub file_number : ℕ → Bool
file_number n = both (leb 25 n) (leb n 26)

pub data Stops (r : Refusal) : Type 0 where
  by_event : Leaves (number_of r) → Stops r
  by_file : file_number (number_of r) ≡ true → Stops r

-- the table has the numbers that stop, and no other, but for a file's
stops_row : (r : Refusal) → stops_by r ≡ either (has_number (number_of r) stop_rows) (file_number (number_of r))
unfolding stops_by has_number both either
stops_row R.Size = refl
stops_row R.LongLine = refl
stops_row R.NotText = refl
stops_row R.NotEventLine = refl
stops_row R.Misplaced = refl
stops_row R.OutsideSection = refl
stops_row R.Missing = refl
stops_row R.NotInteger = refl
stops_row R.NotTimestamp = refl
stops_row R.CoordinateRange = refl
stops_row R.MemberType = refl
stops_row (R.Regression v) = refl
stops_row R.StringsFull = refl
stops_row R.IdsFull = refl
stops_row R.ArenaFull = refl
stops_row R.TooManyParts = refl
stops_row R.BadRecord = refl
stops_row R.Unfinished = refl
stops_row R.ShortOutput = refl
stops_row R.NotInOrder = refl
stops_row R.NoSuchNumber = refl
stops_row R.Unsound = refl
stops_row R.NotDegrees = refl
stops_row R.BothForms = refl
stops_row R.NotMarkup = refl
stops_row R.UnmatchedEndTag = refl

file_stopping : (n : ℕ) → file_number n ≡ true → stopping_number n ≡ true
file_stopping n e =
    let l = leb-true 25 n (both_left _ _ e) in
    either_right (both (leb 2 n) (leb n 16)) (both_of (le-leb 23 n (omega arith)) (both_right _ _ e))

pub stops_exactly : (r : Refusal) → (stops_by r ≡ true) ↔ Stops r
stops_exactly r = (to, from)
  where
    to : stops_by r ≡ true → Stops r
    to t =
        by_either (has_number (number_of r) stop_rows) (file_number (number_of r)) (sym (stops_row r) ∙ t)
        (λ u. by_event (found stop_rows (number_of r) stops_claim u))
        (λ u. by_file u)

    from : Stops r → stops_by r ≡ true
    from (by_event l) = stops_numbers r ∙ event_stopping (number_of r) (leaves_number_of l)
    from (by_file e) = stops_numbers r ∙ file_stopping (number_of r) e

-- and no event leaves a file's
pub file_not_left : (n : ℕ) → file_number n ≡ true → Leaves n → ⊥
file_not_left n e l =
    let k = leb-true 25 n (both_left _ _ e) in
    by_either _ _ (leaves_number_of l)
    (λ t. let i = leb-true n 16 (both_right _ _ t) in omega arith)
    (λ t. by_either _ _ t (λ u. let i = eqb-true n 23 u in omega arith) (λ u. let i = eqb-true n 24 u in omega arith))
