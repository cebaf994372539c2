-- An event and an end, place by place: 22, the stop mark, then the step or the level.
use Rattle.reader.specs.declared.RefusedAt.{RefusedAt}
use Rattle.std.specs.Prelude.{Ok, Err, Result, Option, Some, None}
use Prim.Native.Nat.{ℕ, ◌+◌}
use mathlib.Core.Path.{◌≡◌, refl, sym, ◌∙◌, ap}
use mathlib.Core.Bool.{true, false}
use mathlib.Core.Logic.{◌↔◌}
use Rattle.base.specs.Bytes.{Bytes}
use Rattle.base.proofs.Split.{by_bool, no}
use Rattle.refusal.specs.declared.Refusal.{Refusal}
use Rattle.refusal.specs.declared.Refusal.TheVariants as R
use Rattle.nesting.specs.declared.Level.{Level}
use Rattle.nesting.specs.declared.Level.TheVariants as L
use Rattle.event_decision.specs.Decision.{decide}
use Rattle.reader.specs.State.{State, next_line, stops_by, is_stopped, state_sound, refusal_at}
use Rattle.reader.specs.Step.{Advanced, Step, goes, stops, step_of}
use Rattle.reader.specs.Event.{EventResult, refused_at, stepped, unless_stopped, event_on, end_at, end_on}

-- an answer, by what the whole is
pub answer_is : {a : EventResult} {t : State} {x y : Result Unit RefusedAt} → a ≡ record { state = t; answer = x } → a.answer ≡ y → x ≡ y
answer_is {a} e f = sym (ap (λ (z : EventResult). z.answer) e) ∙ f

-- two answers that are the same have the same refusal, and the same line
pub same_refusal : {r x : Refusal} {n m : ℕ} → ◌≡◌ {A = Result Unit RefusedAt} (Err (refusal_at r n)) (Err (refusal_at x m)) → (r ≡ x) × (n ≡ m)
same_refusal {r} {x} {n} {m} e =
    let z : refusal_at r n ≡ refusal_at x m = cc in
    (ap (λ (y : RefusedAt). y.refusal) z, ap (λ (y : RefusedAt). y.line) z)

-- an event or an end is accepted or refused
pub by_answer : {C : Type 0} (x : Result Unit RefusedAt) → (x ≡ Ok tt → C) → ((r : Refusal) (n : ℕ) → x ≡ Err (refusal_at r n) → C) → C
by_answer (Ok tt) f g = f refl
by_answer (Err a) f g = g a.refusal a.line refl

-- a reader is stopped by its mark, or goes on
module _ (s : State) (a : EventResult) where
  goes_on : (m : Option RefusedAt) → is_stopped m ≡ false → unless_stopped m s a ≡ a
  goes_on None e = refl
  goes_on (Some a) e = rw e

  by_stop : {C : Type 0} (m : Option RefusedAt) → (is_stopped m ≡ false → C) → ((r : Refusal) (n : ℕ) → m ≡ Some (refusal_at r n) → stops_by r ≡ true → C) → C
  by_stop None f g = f refl
  by_stop (Some a) f g = by_bool (stops_by a.refusal) (λ e. g a.refusal a.line refl e) f

  repeats : (m : Option RefusedAt) (r : Refusal) (n : ℕ) → m ≡ Some (refusal_at r n) → stops_by r ≡ true → unless_stopped m s a ≡ refused_at s r n
  repeats m r n e t = rw (e, t)

-- ---- an event

module _ (line : Bytes) (s : State) where
  -- what it does where it is neither refused 22 nor stopped
  abbrev pub step_at : Step
  step_at = step_of (decide line s.reader.place) s

  -- 22 names no line, and changes nothing: the stop mark neither
  pub event_22 : state_sound s ≡ false → event_on line s ≡ refused_at s R.Unsound 0
  unfolding event_on
  event_22 e = rw e

  -- a stopped reader repeats its number, line and HELD, and changes nothing
  pub event_stopped : (r : Refusal) (n : ℕ) → state_sound s ≡ true → s.reader.stop ≡ Some (refusal_at r n) → stops_by r ≡ true → event_on line s ≡ refused_at s r n
  unfolding event_on
  event_stopped r n e g t = rw e (repeats s (stepped s step_at) s.reader.stop r n g t)

  pub event_going : state_sound s ≡ true → is_stopped s.reader.stop ≡ false → event_on line s ≡ stepped s step_at
  unfolding event_on
  event_going e g = rw e (goes_on s (stepped s step_at) s.reader.stop g)

  -- an event is refused 22, repeats the stop mark, is refused by its step, or goes
  pub by_event : {C : Type 0}
      → (state_sound s ≡ false → event_on line s ≡ refused_at s R.Unsound 0 → C)
      → ((r : Refusal) (n : ℕ) → state_sound s ≡ true → s.reader.stop ≡ Some (refusal_at r n) → stops_by r ≡ true → event_on line s ≡ refused_at s r n → C)
      → ((r : Refusal) → state_sound s ≡ true → is_stopped s.reader.stop ≡ false → step_at ≡ stops r → event_on line s ≡ stepped s (stops r) → C)
      → ((l : Advanced) → state_sound s ≡ true → is_stopped s.reader.stop ≡ false → step_at ≡ goes l → event_on line s ≡ stepped s (goes l) → C)
      → C
  by_event {C} unsound again refusal accepted =
      by_bool (state_sound s)
      (λ e. by_stop s (stepped s step_at) s.reader.stop (λ g. steps e g step_at refl) (λ r n g t. again r n e g t (event_stopped r n e g t)))
      (λ e. unsound e (event_22 e))
    where
      steps : state_sound s ≡ true → is_stopped s.reader.stop ≡ false → (x : Step) → step_at ≡ x → C
      steps e g (stops r) f = refusal r e g f (event_going e g ∙ ap (stepped s) f)
      steps e g (goes l) f = accepted l e g f (event_going e g ∙ ap (stepped s) f)

  -- an accepted event is that of a sound state and a reader that is not stopped, whose step goes
  pub event_goes : (event_on line s).answer ≡ Ok tt
      → (state_sound s ≡ true) × ((l : Advanced) × ((step_at ≡ goes l) × (event_on line s ≡ stepped s (goes l))))
  event_goes a =
      by_event (λ u w. let z = answer_is w a in no (cc)) (λ x m u q t w. let z = answer_is w a in no (cc)) (λ x u q f w. let z = answer_is w a in no (cc))
      (λ l u q f w. (u, (l, (f, w))))

  -- it adds one to the count of lines, and its reader is not stopped
  pub event_counts : (event_on line s).answer ≡ Ok tt → ((event_on line s).state.reader.lines ≡ s.reader.lines + 1) × ((event_on line s).state.reader.stop ≡ None)
  event_counts a = let w = (event_goes a).1.1.1 in (ap (λ (z : EventResult). z.state.reader.lines) w, ap (λ (z : EventResult). z.state.reader.stop) w)

-- ---- the end

module _ (s : State) where
  pub end_22 : state_sound s ≡ false → end_on s ≡ refused_at s R.Unsound 0
  unfolding end_on
  end_22 e = rw e

  -- "later events and the end repeat that number, line and HELD"
  pub end_stopped : (r : Refusal) (n : ℕ) → state_sound s ≡ true → s.reader.stop ≡ Some (refusal_at r n) → stops_by r ≡ true → end_on s ≡ refused_at s r n
  unfolding end_on
  end_stopped r n e g t = rw e (repeats s (end_at s.reader.place.level s) s.reader.stop r n g t)

  pub end_going : state_sound s ≡ true → is_stopped s.reader.stop ≡ false → end_on s ≡ end_at s.reader.place.level s
  unfolding end_on
  end_going e g = rw e (goes_on s (end_at s.reader.place.level s) s.reader.stop g)

  -- an end is refused 22, repeats the stop mark, or is answered by the level
  pub by_end : {C : Type 0}
      → (state_sound s ≡ false → end_on s ≡ refused_at s R.Unsound 0 → C)
      → ((r : Refusal) (n : ℕ) → state_sound s ≡ true → s.reader.stop ≡ Some (refusal_at r n) → stops_by r ≡ true → end_on s ≡ refused_at s r n → C)
      → (state_sound s ≡ true → is_stopped s.reader.stop ≡ false → end_on s ≡ end_at s.reader.place.level s → C)
      → C
  by_end unsound again level =
      by_bool (state_sound s)
      (λ e. by_stop s (end_at s.reader.place.level s) s.reader.stop (λ g. level e g (end_going e g)) (λ r n g t. again r n e g t (end_stopped r n e g t)))
      (λ e. unsound e (end_22 e))

  -- "18 level is not Done", at one line past the last; nothing changes
  pub by_level : {C : Type 0} (l : Level) → (l ≡ L.Done → end_at l s ≡ record { state = s; answer = Ok tt } → C)
      → ((l ≡ L.Done → ⊥) → end_at l s ≡ refused_at s R.Unfinished (next_line s) → C) → C
  by_level L.Done f g = f refl refl
  by_level L.Doc f g = g (λ e. no (cc)) refl
  by_level L.Root f g = g (λ e. no (cc)) refl
  by_level L.Section f g = g (λ e. no (cc)) refl
  by_level L.Element f g = g (λ e. no (cc)) refl
  by_level L.Leaf f g = g (λ e. no (cc)) refl
  by_level L.Other f g = g (λ e. no (cc)) refl

  -- an end changes nothing: it neither stops its reader nor revives it
  pub end_keeps : (end_on s).state ≡ s
  end_keeps =
      by_end (λ u w. ap (λ (z : EventResult). z.state) w) (λ r n u g t w. ap (λ (z : EventResult). z.state) w)
      (λ u g w. ap (λ (z : EventResult). z.state) w ∙ by_level s.reader.place.level (λ d x. ap (λ (z : EventResult). z.state) x) (λ d x. ap (λ (z : EventResult). z.state) x))

  module _ (e : state_sound s ≡ true) (g : is_stopped s.reader.stop ≡ false) where
    end_answer : {x : Result Unit RefusedAt} → end_at s.reader.place.level s ≡ record { state = s; answer = x } → (end_on s).answer ≡ x
    end_answer w = ap (λ (z : EventResult). z.answer) (end_going e g ∙ w)

    -- an end is accepted exactly in Done
    pub end_done : ((end_on s).answer ≡ Ok tt) ↔ (s.reader.place.level ≡ L.Done)
    end_done =
        by_level s.reader.place.level (λ d w. (λ a. d, λ x. end_answer w))
        (λ n w. (λ a. let z = sym (end_answer w) ∙ a in no (cc), λ d. absurd (n d)))

    -- and refused 18 exactly where it is not: it has no other refusal
    pub end_18 : ((end_on s).answer ≡ Err (refusal_at R.Unfinished (next_line s))) ↔ (s.reader.place.level ≡ L.Done → ⊥)
    end_18 =
        by_level s.reader.place.level (λ d w. (λ a. let z = sym (end_answer w) ∙ a in no (cc), λ n. absurd (n d))) (λ n w. (λ a. n, λ x. end_answer w))
