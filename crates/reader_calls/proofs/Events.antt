-- Each answer of an event, place by place: 22, the stop mark, then the step.
use Rattle.reader.specs.declared.RefusedAt.{RefusedAt}
use Rattle.std.specs.Prelude.{Ok, Err, Result, None}
use Prim.Native.Nat.{ℕ}
use mathlib.Core.Path.{◌≡◌, refl, sym, ◌∙◌, ap}
use mathlib.Core.Bool.{true}
use native.Mathlib.Omega.{arith}
use Rattle.base.specs.Bytes.{Bytes}
use Rattle.refusal.specs.declared.Refusal.{Refusal}
use Rattle.event_decision.specs.Decision.{decide, refuses}
use Rattle.interner.specs.Sound.{sound_strings}
use Rattle.interner.proofs.Interns.{sound_of}
use Rattle.text_index.specs.Chained.{HandleChains, none_chained, ChainsServe}
use Rattle.overlay.specs.Overlay.{Overlay}
use Rattle.overlay.specs.Sound.{is_sound}
use Rattle.overlay.proofs.Answers.{strings_sound}
use Rattle.reader.specs.State.{State, next_line, state_sound, refusal_at}
use Rattle.reader.specs.Step.{Step, goes, stops, step_of}
use Rattle.reader.specs.Done.{StepResult, done_by}
use Rattle.reader.specs.Event.{EventResult, stopped_at, stepped, event_on}
use Rattle.reader.proofs.Answers.{event_22, event_stopped, event_going}
use Rattle.reader_sound.specs.Mark.{going_answer}
use Rattle.reader_sound.proofs.Mark.{going_on, by_refused}
use Rattle.reader_sound.proofs.Sound.{sound_used, sound_strings_lem}
use Rattle.reader_parts.specs.Parts.{StepGiven}

-- ---- chains of handles

pub texts_sound : (o : Overlay) → is_sound o ≡ true → sound_strings o.texts ≡ true
texts_sound o e = sound_of o.texts (strings_sound o e)

-- none serve any strings
pub none_serve : (s : State) (k : HandleChains) → k ≡ none_chained → ChainsServe k s.overlay.texts
none_serve s k e h = absurd (omega (arith, ap (λ (c : HandleChains). c.handles) e))

module _ (line : Bytes) (s : State) where
  -- ---- a step

  -- what is given to it
  pub step_given : state_sound s ≡ true → {chains : HandleChains} → ChainsServe chains s.overlay.texts → StepGiven chains s
  step_given e i = record { strings = sound_strings_lem s e; used = sound_used s e; serve = i }

  -- a refusal of the line
  pub step_refused : {r : Refusal} → refuses r ≡ decide line s.reader.place → record { state = s; answer = Err r } ≡ done_by s (step_of (decide line s.reader.place) s)
  unfolding step_of
  step_refused e = rw (← e)

  -- the lines count on, or the reader stops
  abbrev counted_by : ℕ → State → Result Unit Refusal → EventResult
  counted_by n t (Ok tt) =
      record { state = record { overlay = t.overlay; reader = record { place = t.reader.place; pending = t.reader.pending; lines = n; stop = None }; parts = t.parts }; answer = Ok tt }
  counted_by n t (Err r) = record { state = record { overlay = t.overlay; reader = stopped_at t.reader r n; parts = t.parts }; answer = Err (refusal_at r n) }

  abbrev counted : StepResult → EventResult
  counted w = counted_by (next_line s) w.state w.answer

  counted_is : (x : Step) → counted (done_by s x) ≡ stepped s x
  counted_is (goes l) = refl
  counted_is (stops r) = refl

  pub event_steps : {w : StepResult} → w ≡ done_by s (step_of (decide line s.reader.place) s) → counted w ≡ stepped s (step_of (decide line s.reader.place) s)
  event_steps w = ap counted w ∙ counted_is (step_of (decide line s.reader.place) s)

  -- ---- 22, and the stop mark

  pub event_checked : {a : RefusedAt} → going_answer (state_sound s) s.reader.stop ≡ Err a → record { state = s; answer = Err a } ≡ event_on line s
  event_checked {a} e =
      by_refused (state_sound s) s.reader.stop a e
      (λ u k. rw k (sym (event_22 line s u)))
      (λ u m t. sym (event_stopped line s a.refusal a.line u m t))

  pub event_goes_by : going_answer (state_sound s) s.reader.stop ≡ Ok tt → {chains : HandleChains} → ChainsServe chains s.overlay.texts → {x : EventResult}
      → (state_sound s ≡ true → ChainsServe chains s.overlay.texts → x ≡ stepped s (step_of (decide line s.reader.place) s)) → x ≡ event_on line s
  event_goes_by e i f = let g = going_on (state_sound s) s.reader.stop e in f g.0 i ∙ sym (event_going line s g.0 g.1)
