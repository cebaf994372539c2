-- After a list of calls a reader is stopped exactly where one of its events was refused, while its count of lines is below its largest.
use Rattle.std.specs.Prelude.{Ok}
use Prim.Native.Nat.{ℕ, ◌+◌, ◌<◌}
use mathlib.Core.Path.{◌≡◌, refl, sym, ◌∙◌, ap}
use mathlib.Core.Bool.{Bool, true, false, not}
use mathlib.Core.List.{List, [], ◌∷◌, ◌++◌}
use native.Mathlib.Omega.{arith}
use lib.ListN.{length}
use borrow.Author.Tests.{eq-eqb, ne_eqb}
use Rattle.base.specs.Bytes.{Bytes, both, either, all}
use Rattle.base.proofs.Split.{by_eq, either_right, either_false, no, clash}
use Rattle.base.proofs.Lists.{all_head, all_tail}
use Rattle.model.specs.Act.{Act}
use Rattle.acts.specs.Call.{World, world_after, acts_from, lines_read}
use Rattle.reader.specs.State.{State, is_stopped, state_sound}
use Rattle.reader.specs.Event.{event_on}
use Rattle.reader.proofs.Answers.{answer_is, by_event, by_answer, event_counts, end_keeps}
use Rattle.reader.proofs.Events.{by_refused}
use Rattle.reader.proofs.Keeps.{ready_sound}
use Rattle.calls.specs.Ask.{Ask, interns, pushes, deletes, reads, ends, allows, call_of, Storage, state_of, event_taken, leaves, accepts, after, answered, ask_fits, is_event_of, stopped_in}
use Rattle.calls.proofs.Lists.{Agrees, agrees_fine, answer_of, agrees_call, call_lines}

either_assoc : (a b c : Bool) → either (either a b) c ≡ either a (either b c)
unfolding either
either_assoc true b c = refl
either_assoc false b c = refl

-- an event: accepted, its reader was not stopped and is not; refused, its reader is stopped
going_before : (line : Bytes) (s : State) → (event_on line s).answer ≡ Ok tt → is_stopped s.reader.stop ≡ false
going_before line s a =
    by_event line s (λ u w. let z = answer_is w a in no (cc)) (λ r n u g t w. let z = answer_is w a in no (cc)) (λ r u g f w. let z = answer_is w a in no (cc)) (λ l u g f w. g)

pub event_stopped : (line : Bytes) (s : State) → state_sound s ≡ true
    → is_stopped (event_on line s).state.reader.stop ≡ either (is_stopped s.reader.stop) (both true (not (event_taken (event_on line s).answer)))
unfolding either both
event_stopped line s e =
    by_answer (event_on line s).answer
    (λ a. rw (a, going_before line s a, (event_counts line s a).1))
    (λ r m a. by_refused line s r m a (λ u k j w. clash e u) (λ u t w. rw (a, w, t) (sym (either_right (is_stopped s.reader.stop) refl))))

module _ (n : ℕ) where
  call_stopped : (c : Ask) (l : Storage) → state_sound (state_of n l) ≡ true
      → is_stopped ((leaves c l).readers n).stop ≡ either (is_stopped (l.readers n).stop) (both (is_event_of n (call_of c)) (not (accepts c l)))
  unfolding both
  call_stopped (interns t) l e = sym (either_false _)
  call_stopped (pushes k h m parts) l e = sym (either_false _)
  call_stopped (deletes k id m) l e = sym (either_false _)
  call_stopped (reads m line) l e =
      by_eq n m
      (λ q. rw (eq-eqb n m q, q) (event_stopped line (state_of m l) (rw q at e)))
      (λ q. rw (ne_eqb n m q) (sym (either_false _)))
  call_stopped (ends m) l e = by_eq n m (λ q. rw (eq-eqb n m q, end_keeps (state_of m l), q) (sym (either_false _))) (λ q. rw (ne_eqb n m q) (sym (either_false _)))
  call_stopped (allows setting) l e = sym (either_false _)

  -- whatever the settings
  pub stopped_calls : (cs : List Ask) (l : Storage) (w : World) (acts : List (Act Bytes)) → all ask_fits cs ≡ true → Agrees false l w acts
      → (l.readers n).lines + length (lines_read n (answered l cs)) < 18446744073709551615
      → is_stopped ((after l cs).readers n).stop ≡ either (is_stopped (l.readers n).stop) (stopped_in n (answered l cs))
  unfolding after answered stopped_in
  stopped_calls [] l w acts f g h = sym (either_false _)
  stopped_calls (c ∷ cs) l w acts f g h =
      let a = answer_of c l in
      let e = ready_sound (state_of n l) (agrees_fine g) (g.ready n) (omega arith) in
      let k = agrees_call false l w acts g c (all_head ask_fits c cs f) (λ z. clash z refl) in
      let i = stopped_calls cs (leaves c l) (world_after w (a ∷ [])) (acts ++ acts_from w (a ∷ [])) (all_tail ask_fits c cs f) k (omega (arith, call_lines n c l (answered (leaves c l) cs))) in
      i ∙ (ap (λ (b : Bool). either b (stopped_in n (answered (leaves c l) cs))) (call_stopped c l e) ∙ either_assoc _ _ _)
