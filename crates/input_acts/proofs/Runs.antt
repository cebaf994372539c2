-- What a run of lines leaves is what its events leave one by one, so each theorem over lists of calls speaks of runs too. A refused run has taken in the lines before the refused one;
-- those behind it change nothing, since their reader is stopped.
use Rattle.reader.specs.declared.RefusedAt.{RefusedAt}
use Rattle.std.specs.Prelude.{None, Option, Some, Err}
use Prim.Native.Nat.{ℕ, ◌+◌}
use mathlib.Core.Path.{◌≡◌, refl, sym, ◌∙◌, ap}
use mathlib.Core.Bool.{false}
use mathlib.Core.List.{List, [], ◌∷◌, ◌++◌, map, flatten}
use lib.Dec.{eqb}
use borrow.Author.Tests.{eqb-true, eq-eqb}
use lib.ListN.{length, length-append}
use Rattle.base.specs.Bytes.{Bytes, both, all}
use Rattle.base.proofs.Split.{by_bool, clash}
use Rattle.refusal.specs.declared.Refusal.{Refusal}
use Rattle.reader.specs.State.{State, state_sound, stops_by, refusal_at}
use Rattle.reader.specs.Event.{EventResult, unless_stopped, event_on}
use Rattle.reader.proofs.Answers.{by_answer, event_22}
use Rattle.reader.proofs.Events.{by_refused, event_repeats, unsound_stops_not}
use Rattle.reader_events.specs.Events.{events_on, taken_bytes, run_lines, run_on}
use Rattle.reader_events.proofs.Answers.{run_is_events}
use Rattle.reader_events.proofs.Onward.{events_on_lem, taken_on, events_off, taken_off, events_none, taken_none}
use Rattle.calls.specs.Ask.{Ask, reads, Storage, state_of, put_at, with_state, event_taken, leaves, after, answered}
use Rattle.acts.specs.Call.{Answered, lines_read}
use Rattle.input_acts.specs.Requests.{Request, asks, runs, after_requests, asked}

-- ---- one reader's part of what is lent

module _ {A : Type 0} (n : ℕ) (f : ℕ → A) where
  put_twice : (a b : A) (m : ℕ) → put_at n a (put_at n b f) m ≡ put_at n a f m
  put_twice a b m = by_bool (eqb m n) (λ t. rw t) (λ t. rw t)

  put_own : (m : ℕ) → put_at n (f n) f m ≡ f m
  put_own m = by_bool (eqb m n) (λ t. rw t (ap f (sym (eqb-true m n t)))) (λ t. rw t)

module _ (n : ℕ) (l : Storage) where
  pub state_own : (s : State) → state_of n (with_state n s l) ≡ s
  state_own s = rw (eq-eqb n n refl)

  state_twice : (s t : State) → with_state n t (with_state n s l) ≡ with_state n t l
  state_twice s t = λ i. record { overlay = t.overlay; readers = λ m. put_twice n l.readers t.reader s.reader m i; parts = λ m. put_twice n l.parts t.parts s.parts m i }

  state_same : with_state n (state_of n l) l ≡ l
  state_same = λ i. record { overlay = l.overlay; readers = λ m. put_own n l.readers m i; parts = λ m. put_own n l.parts m i }

-- ---- after a refusal

-- every event is refused and changes nothing any more
abbrev Quiet : State → Type 0
Quiet s = (next : Bytes) → ((event_on next s).state ≡ s) × (event_taken (event_on next s).answer ≡ false)

refused_quiet : (line : Bytes) (s : State) (r : Refusal) (n : ℕ) → (event_on line s).answer ≡ Err (refusal_at r n) → Quiet (event_on line s).state
refused_quiet line s r n a next =
    by_refused line s r n a
    (λ u k j w. let e = event_22 next s u in rw w (ap (λ (z : EventResult). z.state) e, ap (λ (z : EventResult). event_taken z.answer) e))
    (λ u t w.
    let e = event_repeats line s r n a (λ k. clash t (ap stops_by k ∙ unsound_stops_not)) next in
    (ap (λ (z : EventResult). z.state) e, ap (λ (z : EventResult). event_taken z.answer) e))

module _ (n : ℕ) where
  quiet_leaves : (l : Storage) → Quiet (state_of n l) → (x : Bytes) → leaves (reads n x) l ≡ l
  quiet_leaves l q x = ap (λ (s : State). with_state n s l) (q x).0 ∙ state_same n l

  stays : (l : Storage) → Quiet (state_of n l) → (ls : List Bytes) → after l (map (reads n) ls) ≡ l
  unfolding after
  stays l q [] = refl
  stays l q (x ∷ ls) = ap (λ (z : Storage). after z (map (reads n) ls)) (quiet_leaves l q x) ∙ stays l q ls

  none_read : (l : Storage) → Quiet (state_of n l) → (ls : List Bytes) → lines_read n (answered l (map (reads n) ls)) ≡ []
  unfolding answered lines_read
  none_read l q [] = refl
  none_read l q (x ∷ ls) = rw (q x).1 (ap (λ (z : Storage). lines_read n (answered z (map (reads n) ls))) (quiet_leaves l q x) ∙ none_read l q ls)

-- ---- a run

pub lines_after : (n : ℕ) (ls : List Bytes) (l : Storage) → with_state n (events_on ls (state_of n l)).state l ≡ after l (map (reads n) ls)
unfolding after
lines_after n [] l = rw (events_none (state_of n l)) (state_same n l)
lines_after n (x ∷ ls) l =
    by_answer (event_on x (state_of n l)).answer
    (λ a.
    let s = (event_on x (state_of n l)).state in
    rw (events_on_lem x ls (state_of n l) a)
    (sym (state_twice n l s (events_on ls s).state) ∙ (ap (λ (z : State). with_state n (events_on ls z).state (with_state n s l)) (sym (state_own n l s)) ∙ lines_after n ls (with_state n s l))))
    (λ r m a.
    let s = (event_on x (state_of n l)).state in
    let q : Quiet (state_of n (with_state n s l)) = rw (state_own n l s) (refused_quiet x (state_of n l) r m a) in
    rw (events_off x ls (state_of n l) r m a) (sym (stays n (with_state n s l) q ls)))

-- it is accepted where each of them is
pub lines_accepted : (n : ℕ) (ls : List Bytes) (l : Storage) → event_taken (events_on ls (state_of n l)).answer ≡ all (λ (a : Answered). a.accepted) (answered l (map (reads n) ls))
unfolding answered all both
lines_accepted n [] l = rw (events_none (state_of n l))
lines_accepted n (x ∷ ls) l =
    by_answer (event_on x (state_of n l)).answer
    (λ a.
    let s = (event_on x (state_of n l)).state in
    rw (events_on_lem x ls (state_of n l) a, a)
    (ap (λ (z : State). event_taken (events_on ls z).answer) (sym (state_own n l s)) ∙ lines_accepted n ls (with_state n s l)))
    (λ r m a. rw (events_off x ls (state_of n l) r m a, a))

-- and of its bytes those are taken that the accepted ones have
pub lines_taken : (n : ℕ) (ls : List Bytes) (l : Storage) → taken_bytes ls (state_of n l) ≡ length (flatten (lines_read n (answered l (map (reads n) ls))))
unfolding answered lines_read flatten
lines_taken n [] l = taken_none (state_of n l)
lines_taken n (x ∷ ls) l =
    by_answer (event_on x (state_of n l)).answer
    (λ a.
    let s = (event_on x (state_of n l)).state in
    rw (taken_on x ls (state_of n l) a, a, eq-eqb n n refl)
    (ap (λ (z : ℕ). length x + z) (ap (taken_bytes ls) (sym (state_own n l s)) ∙ lines_taken n ls (with_state n s l))
    ∙ sym (length-append x (flatten (lines_read n (answered (with_state n s l) (map (reads n) ls)))))))
    (λ r m a.
    let s = (event_on x (state_of n l)).state in
    let q : Quiet (state_of n (with_state n s l)) = rw (state_own n l s) (refused_quiet x (state_of n l) r m a) in
    rw (taken_off x ls (state_of n l) r m a, a) (sym (ap (λ (z : List Bytes). length (flatten z)) (none_read n (with_state n s l) q ls))))

after_more : (l : Storage) (cs ds : List Ask) → after l (cs ++ ds) ≡ after (after l cs) ds
unfolding after
after_more l [] ds = refl
after_more l (c ∷ cs) ds = after_more (leaves c l) cs ds

-- what a run leaves is what the events of its lines leave
stopped_kept : (m : Option RefusedAt) (s : State) (a : EventResult) → a.state ≡ s → (unless_stopped m s a).state ≡ s
stopped_kept None s a k = k
stopped_kept (Some x) s a k = by_bool (stops_by x.refusal) (λ t. rw t refl) (λ f. rw f k)

module _ (run : Bytes) (s : State) where
  run_kept : run_lines run ≡ [] → (run_on run s).state ≡ s
  unfolding run_on
  run_kept e =
      by_bool (state_sound s)
      (λ u. rw u (stopped_kept s.reader.stop s (events_on (run_lines run) s) (rw e (ap (λ (z : EventResult). z.state) (events_none s)))))
      (λ u. rw u refl)

  run_leaves : (ls : List Bytes) → run_lines run ≡ ls → (run_on run s).state ≡ (events_on (run_lines run) s).state
  run_leaves [] e = run_kept e ∙ sym (rw e (ap (λ (z : EventResult). z.state) (events_none s)))
  run_leaves (x ∷ ls) e = ap (λ (z : EventResult). z.state) (run_is_events run s e)

-- a list with runs in it leaves what the list of their events leaves
pub requests_after : (l : Storage) (rs : List Request) → after_requests l rs ≡ after l (asked rs)
unfolding after_requests asked after
requests_after l [] = refl
requests_after l (asks c ∷ rs) = requests_after (leaves c l) rs
requests_after l (runs n run ∷ rs) =
    requests_after (with_state n (run_on run (state_of n l)).state l) rs
    ∙ (ap (λ (z : Storage). after z (asked rs)) (ap (λ (z : State). with_state n z l) (run_leaves run (state_of n l) (run_lines run) refl) ∙ lines_after n (run_lines run) l)
    ∙ sym (after_more l (map (reads n) (run_lines run)) (asked rs)))
