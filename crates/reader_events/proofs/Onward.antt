-- Lines up to the first that is refused: those of one list behind another, the lines that a run gives, and what a caller who streams keeps.
use Rattle.std.specs.Prelude.{Ok, Err}
use Prim.Native.Nat.{ℕ, ◌+◌, ◌<◌, ◌≤◌}
use mathlib.Core.Path.{◌≡◌, refl, sym, ◌∙◌, ap}
use mathlib.Core.List.{List, [], ◌∷◌, ◌++◌, append-nil, flatten}
use borrow.Author.Tests.{le-leb, lt-leb}
use lib.ListN.{length, drop, length-append}
use lib.Seq.{drop-append_seam}
use Rattle.base.specs.Bytes.{Bytes}
use Rattle.base.proofs.Split.{no}
use Rattle.refusal.specs.declared.Refusal.{Refusal}
use Rattle.input_lines.specs.Lines.{lines_of, rest_of}
use Rattle.input_lines.proofs.Lines.{lines_joined}
use Rattle.reader.specs.State.{State, refusal_at}
use Rattle.reader.specs.Event.{EventResult, event_on}
use Rattle.reader.proofs.Answers.{by_answer}
use Rattle.reader_events.specs.Events.{events_on, taken_bytes, long_rest, run_lines}

-- ---- the cases

module _ (l : Bytes) (ls : List Bytes) (s : State) where
  pub events_on_lem : (event_on l s).answer ≡ Ok tt → events_on (l ∷ ls) s ≡ events_on ls (event_on l s).state
  unfolding events_on
  events_on_lem a = rw a

  pub taken_on : (event_on l s).answer ≡ Ok tt → taken_bytes (l ∷ ls) s ≡ length l + taken_bytes ls (event_on l s).state
  unfolding taken_bytes
  taken_on a = rw a

  pub events_off : (r : Refusal) (n : ℕ) → (event_on l s).answer ≡ Err (refusal_at r n) → events_on (l ∷ ls) s ≡ record { state = (event_on l s).state; answer = Err (refusal_at r n) }
  unfolding events_on
  events_off r n a = rw a

  pub taken_off : (r : Refusal) (n : ℕ) → (event_on l s).answer ≡ Err (refusal_at r n) → taken_bytes (l ∷ ls) s ≡ 0
  unfolding taken_bytes
  taken_off r n a = rw a

pub events_none : (s : State) → events_on [] s ≡ record { state = s; answer = Ok tt }
unfolding events_on
events_none s = refl

pub taken_none : (s : State) → taken_bytes [] s ≡ 0
unfolding taken_bytes
taken_none s = refl

-- one line is its event
pub events_one : (l : Bytes) (s : State) → events_on (l ∷ []) s ≡ event_on l s
events_one l s =
    by_answer (event_on l s).answer
    (λ a. events_on_lem l [] s a ∙ (events_none (event_on l s).state ∙ (λ i. record { state = (event_on l s).state; answer = sym a i })))
    (λ r n a. events_off l [] s r n a ∙ (λ i. record { state = (event_on l s).state; answer = sym a i }))

-- ---- one list behind another

pub events_more : (ls ms : List Bytes) (s : State) → (events_on ls s).answer ≡ Ok tt → events_on (ls ++ ms) s ≡ events_on ms (events_on ls s).state
events_more [] ms s e = ap (λ (z : EventResult). events_on ms z.state) (sym (events_none s))
events_more (l ∷ ls) ms s e =
    by_answer (event_on l s).answer
    (λ a. let w = events_on_lem l ls s a in
    events_on_lem l (ls ++ ms) s a ∙ rw w (events_more ls ms (event_on l s).state (sym (ap (λ (z : EventResult). z.answer) w) ∙ e)))
    (λ r n a. let z = sym (ap (λ (z : EventResult). z.answer) (events_off l ls s r n a)) ∙ e in no (cc))

pub events_enough : (ls ms : List Bytes) (s : State) (r : Refusal) (n : ℕ) → (events_on ls s).answer ≡ Err (refusal_at r n) → events_on (ls ++ ms) s ≡ events_on ls s
events_enough [] ms s r n e = let z = sym (ap (λ (z : EventResult). z.answer) (events_none s)) ∙ e in no (cc)
events_enough (l ∷ ls) ms s r n e =
    by_answer (event_on l s).answer
    (λ a. let w = events_on_lem l ls s a in
    events_on_lem l (ls ++ ms) s a ∙ (events_enough ls ms (event_on l s).state r n (sym (ap (λ (z : EventResult). z.answer) w) ∙ e) ∙ sym w))
    (λ x m a. events_off l (ls ++ ms) s x m a ∙ sym (events_off l ls s x m a))

-- ---- the bytes that are taken

-- where all are accepted, all
pub taken_all : (ls : List Bytes) (s : State) → (events_on ls s).answer ≡ Ok tt → taken_bytes ls s ≡ length (flatten ls)
unfolding flatten
taken_all [] s e = taken_none s
taken_all (l ∷ ls) s e =
    by_answer (event_on l s).answer
    (λ a. let w = ap (λ (z : EventResult). z.answer) (events_on_lem l ls s a) in
    taken_on l ls s a ∙ (ap (length l +◌) (taken_all ls (event_on l s).state (sym w ∙ e)) ∙ sym (length-append l (flatten ls))))
    (λ r n a. let z = sym (ap (λ (z : EventResult). z.answer) (events_off l ls s r n a)) ∙ e in no (cc))

-- where one is refused, those before it: they are accepted, and its event is the last
pub record RefusedLine (ls : List Bytes) (s : State) : Type 0 where
  pub before : List Bytes
  pub line : Bytes
  pub behind : List Bytes
  pub are : ls ≡ before ++ (line ∷ behind)
  pub accepted : (events_on before s).answer ≡ Ok tt
  pub bytes : taken_bytes ls s ≡ length (flatten before)
  pub last : events_on ls s ≡ event_on line (events_on before s).state

pub refused_line : (ls : List Bytes) (s : State) (r : Refusal) (n : ℕ) → (events_on ls s).answer ≡ Err (refusal_at r n) → RefusedLine ls s
unfolding flatten
refused_line [] s r n e = let z = sym (ap (λ (z : EventResult). z.answer) (events_none s)) ∙ e in no (cc)
refused_line (l ∷ ls) s r n e =
    by_answer (event_on l s).answer
    (λ a. let w = events_on_lem l ls s a in
    let q = refused_line ls (event_on l s).state r n (sym (ap (λ (z : EventResult). z.answer) w) ∙ e) in
    let k = events_on_lem l q.before s a in
    record {
      before = l ∷ q.before;
      line = q.line;
      behind = q.behind;
      are = ap (l ∷◌) q.are;
      accepted = ap (λ (z : EventResult). z.answer) k ∙ q.accepted;
      bytes = taken_on l ls s a ∙ (ap (length l +◌) q.bytes ∙ sym (length-append l (flatten q.before)));
      last = w ∙ (q.last ∙ ap (λ (z : EventResult). event_on q.line z.state) (sym k));
    })
    (λ x m a. let k = events_none s in
    record {
      before = [];
      line = l;
      behind = ls;
      are = refl;
      accepted = ap (λ (z : EventResult). z.answer) k;
      bytes = taken_off l ls s x m a;
      last = events_off l ls s x m a ∙ ((λ i. record { state = (event_on l s).state; answer = sym a i }) ∙ ap (λ (z : EventResult). event_on l z.state) (sym k));
    })

-- ---- the lines that a run gives

module _ (run : Bytes) where
  pub lines_short : length (rest_of run) ≤ 16384 → run_lines run ≡ lines_of run
  unfolding run_lines
  lines_short h = rw (le-leb (length (rest_of run)) 16384 h) (append-nil (lines_of run))

  pub lines_long : 16384 < length (rest_of run) → run_lines run ≡ lines_of run ++ (rest_of run ∷ [])
  unfolding run_lines
  lines_long h = rw (lt-leb (length (rest_of run)) 16384 h)

module _ (run : Bytes) (s : State) where
  -- a refusal among the whole lines is that of all
  pub run_enough : (r : Refusal) (n : ℕ) → (events_on (lines_of run) s).answer ≡ Err (refusal_at r n) → events_on (run_lines run) s ≡ events_on (lines_of run) s
  unfolding run_lines
  run_enough r n a = events_enough (lines_of run) (long_rest (rest_of run)) s r n a

  -- where the whole lines are accepted, what is left of the run comes after them
  pub run_more : (events_on (lines_of run) s).answer ≡ Ok tt → events_on (run_lines run) s ≡ events_on (long_rest (rest_of run)) (events_on (lines_of run) s).state
  unfolding run_lines
  run_more a = events_more (lines_of run) (long_rest (rest_of run)) s a

  -- where nothing is refused, the whole lines are accepted
  lines_accepted : (events_on (run_lines run) s).answer ≡ Ok tt → (events_on (lines_of run) s).answer ≡ Ok tt
  lines_accepted a =
      by_answer (events_on (lines_of run) s).answer
      (λ b. b)
      (λ r n b. let z = sym (ap (λ (z : EventResult). z.answer) (run_enough r n b) ∙ b) ∙ a in no (cc))

  -- ---- a run that a caller reads piece by piece

  -- behind the bytes that were taken lies the unfinished line
  pub run_rest : (events_on (lines_of run) s).answer ≡ Ok tt → drop (taken_bytes (lines_of run) s) run ≡ rest_of run
  run_rest a =
      rw (taken_all (lines_of run) s a)
      (ap (drop (length (flatten (lines_of run)))) (sym (lines_joined run)) ∙ drop-append_seam (flatten (lines_of run)) (rest_of run))

  pub run_left : (events_on (run_lines run) s).answer ≡ Ok tt → drop (taken_bytes (lines_of run) s) run ≡ rest_of run
  run_left a = run_rest (lines_accepted a)
