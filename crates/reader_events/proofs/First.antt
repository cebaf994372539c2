-- T4: a run is refused by the first condition of its table that holds, with its line and its HELD, and accepted where none holds.
use Rattle.reader.specs.declared.RefusedAt.{RefusedAt}
use Rattle.std.specs.Prelude.{Err, None, Ok, Option, Result, Some}
use mathlib.Core.Path.{◌≡◌, refl, sym, ◌∙◌, ap}
use mathlib.Core.Bool.{true, false}
use mathlib.Core.List.{List, [], ◌∷◌, ◌++◌}
use lib.ListN.{length}
use borrow.Author.Tests.{lt-ltb, le-ltb, lt-leb, le-leb}
use Rattle.base.specs.Bytes.{Bytes, both}
use Rattle.base.proofs.Split.{by_bool, by_le, no}
use Rattle.refusal.specs.First.{ConditionRow, first_of}
use Rattle.refusal.proofs.First.{before, first_more}
use Rattle.line.proofs.Lines.{lacks}
use Rattle.input_lines.specs.Lines.{lines_of, rest_of}
use Rattle.input_lines.proofs.Lines.{rest_lacks}
use Rattle.reader.specs.State.{State, stops_by, is_stopped, state_sound}
use Rattle.reader.specs.Event.{EventResult, stepped, unless_stopped, event_on}
use Rattle.reader.specs.Table.{answer_by, stop_rows, event_table}
use Rattle.reader.proofs.Answers.{by_answer, event_22, event_going}
use Rattle.reader.proofs.Tables.{event_first}
use Rattle.reader_events.specs.Events.{events_on, long_rest, run_lines, run_on}
use Rattle.reader_events.specs.First.{events_table, long_rest_table, run_table}
use Rattle.reader_events.proofs.Onward.{events_none, events_on_lem, events_off, events_one, run_enough, run_more}
use Rattle.reader_events.proofs.Answers.{lines_go, long_stops}

-- the first row that holds, by the answer
none_holds : (x : Option RefusedAt) → Ok tt ≡ answer_by x → x ≡ None
none_holds None e = refl
none_holds (Some a) e = no (cc)

one_holds : (x : Option RefusedAt) {a : RefusedAt} → Err a ≡ answer_by x → x ≡ Some a
one_holds None e = no (cc)
one_holds (Some b) e = cc

-- what is decided by rows, and where they decide nothing by more rows
module _ (xs ys : List (ConditionRow RefusedAt)) where
  more_rows : {a : Result Unit RefusedAt} → Ok tt ≡ answer_by (first_of xs) → a ≡ answer_by (first_of ys) → a ≡ answer_by (first_of (xs ++ ys))
  more_rows e h = h ∙ sym (ap answer_by (first_more xs ys ∙ ap (λ (x : Option RefusedAt). before x (first_of ys)) (none_holds (first_of xs) e)))

  enough_rows : {a : RefusedAt} → Err a ≡ answer_by (first_of xs) → Err a ≡ answer_by (first_of (xs ++ ys))
  enough_rows e = sym (ap answer_by (first_more xs ys ∙ ap (λ (x : Option RefusedAt). before x (first_of ys)) (one_holds (first_of xs) e)))

-- ---- lines

pub events_first : (ls : List Bytes) (s : State) → (events_on ls s).answer ≡ answer_by (first_of (events_table ls s))
unfolding first_of events_table
events_first [] s = ap (λ (z : EventResult). z.answer) (events_none s)
events_first (l ∷ ls) s =
    by_answer (event_on l s).answer
    (λ a. let w = ap (λ (z : EventResult). z.answer) (events_on_lem l ls s a) in
    more_rows (event_table l s) (events_table ls (event_on l s).state) (sym a ∙ event_first l s) (w ∙ events_first ls (event_on l s).state))
    (λ r n a. let w = ap (λ (z : EventResult). z.answer) (events_off l ls s r n a) in
    w ∙ enough_rows (event_table l s) (events_table ls (event_on l s).state) (sym a ∙ event_first l s))

-- what is left of a run, of a reader that goes on
module _ (rest : Bytes) (h : lacks 10 rest ≡ true) (s : State) (g : is_stopped s.reader.stop ≡ false) where
  long_rest_first : (events_on (long_rest rest) s).answer ≡ answer_by (first_of (long_rest_table rest s))
  unfolding first_of long_rest_table both
  long_rest_first =
      by_le (length rest) 16384
      (λ k. rw (le-leb (length rest) 16384 k, le-ltb 16384 (length rest) k) (ap (λ (z : EventResult). z.answer) (events_none s)))
      (λ k. by_bool (state_sound s)
      (λ v. rw (lt-leb (length rest) 16384 k, lt-ltb 16384 (length rest) k, v)
      (ap (λ (z : EventResult). z.answer) (events_one rest s ∙ (event_going rest s v g ∙ ap (stepped s) (long_stops rest k h s)))))
      (λ v. rw (lt-leb (length rest) 16384 k, lt-ltb 16384 (length rest) k, v) (ap (λ (z : EventResult). z.answer) (events_one rest s ∙ event_22 rest s v))))

-- ---- the run

-- the stop mark, then what comes behind it
behind_mark : (m : Option RefusedAt) (s : State) (x : EventResult) (rows : List (ConditionRow RefusedAt)) → (is_stopped m ≡ false → x.answer ≡ answer_by (first_of rows))
    → (unless_stopped m s x).answer ≡ answer_by (first_of (stop_rows m ++ rows))
unfolding first_of
behind_mark None s x rows h = h refl
behind_mark (Some a) s x rows h = by_bool (stops_by a.refusal) (λ t. rw t) (λ t. rw t (h t))

module _ (run : Bytes) (s : State) where
  lines_then_rest : is_stopped s.reader.stop ≡ false
      → (events_on (run_lines run) s).answer ≡ answer_by (first_of (events_table (lines_of run) s ++ long_rest_table (rest_of run) (events_on (lines_of run) s).state))
  lines_then_rest g =
      let ls = lines_of run in
      by_answer (events_on ls s).answer
      (λ a. more_rows _ _ (sym a ∙ events_first ls s)
      (ap (λ (z : EventResult). z.answer) (run_more run s a) ∙ long_rest_first (rest_of run) (rest_lacks run) (events_on ls s).state (lines_go ls s g a)))
      (λ r n a. ap (λ (z : EventResult). z.answer) (run_enough run s r n a) ∙ (a ∙ enough_rows _ _ (sym a ∙ events_first ls s)))

  pub run_first : (run_on run s).answer ≡ answer_by (first_of (run_table run s))
  unfolding first_of run_on run_table
  run_first =
      by_bool (state_sound s)
      (λ u. rw u (behind_mark s.reader.stop s (events_on (run_lines run) s) _ lines_then_rest))
      (λ u. rw u)
