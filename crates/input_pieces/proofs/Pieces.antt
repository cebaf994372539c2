-- Pieces of any size, read up to the first refusal, are taken in as the whole input is.
use Rattle.reader.specs.declared.RefusedAt.{RefusedAt}
use Rattle.std.specs.Prelude.{Ok, Err, Result}
use Prim.Native.Nat.{ℕ, ◌≤◌, min}
use mathlib.Core.Path.{◌≡◌, refl, sym, ◌∙◌, ap}
use mathlib.Core.Bool.{true}
use mathlib.Core.List.{List, [], ◌∷◌, ◌++◌, foldl}
use native.Mathlib.Omega.{arith}
use lib.ListN.{length, take, drop}
use lib.Seq.{take-append_seam}
use Rattle.base.specs.Bytes.{Bytes}
use Rattle.base.proofs.Split.{by_le}
use Rattle.refusal.specs.declared.Refusal.{Refusal}
use Rattle.line.proofs.Lines.{lacks}
use Rattle.little.specs.Little.{over}
use Rattle.little.proofs.Overs.{length_over, over_start}
use Rattle.input_lines.specs.Lines.{lines_of, rest_of}
use Rattle.input_lines.specs.Stream.{Stream, after_piece, after_end}
use Rattle.input_lines.proofs.Lines.{rest_lacks}
use Rattle.input_lines.proofs.Streams.{stopped_early, cut_short}
use Rattle.reader.specs.State.{State, refusal_at}
use Rattle.reader.specs.Event.{EventResult, event_on}
use Rattle.reader.proofs.Answers.{by_answer}
use Rattle.reader_events.specs.Events.{events_on, run_lines}
use Rattle.reader_events.specs.Runs.{RunGiven}
use Rattle.input_pieces.specs.Feed.{after_event, Intake, IntakeResult, kept_line, kept_after, feed_on, read_on, state_at_end}
use Rattle.reader_events.proofs.Runs.{given_after}
use Rattle.reader_events.proofs.Onward.{events_off, events_more, lines_short, lines_long, run_enough}
use Rattle.reader_events.proofs.Answers.{long_refused}
use Rattle.input_pieces.proofs.Stops.{events_fold, events_still, long_same, long_still}

-- ---- what is held between pieces

abbrev pub stream_of : Intake → Stream State
stream_of f = record { state = f.state; rest = kept_line f }

pub record Holds (f : Intake) : Type 0 where
  pub room : length f.buffer ≡ 81920
  pub short : f.held ≤ 16384
  pub unbroken : lacks 10 (kept_line f) ≡ true

-- so of the bytes held all count: `feed` and `finish` take at most 16,384 of them
pub holds_all : (f : Intake) → Holds f → ◌≡◌ {A = Intake} (record { state = f.state; buffer = f.buffer; held = min f.held 16384 }) f
holds_all f w = let e : min f.held 16384 ≡ f.held = omega (arith, w.short) in λ i. record { state = f.state; buffer = f.buffer; held = e i }

-- a piece more: its lines are accepted and the rest is kept; or an event is refused, and whatever follows changes nothing
module _ (f : Intake) (w : Holds f) (p : Bytes) where
  abbrev given : Bytes
  given = kept_line f ++ p

  abbrev lines : EventResult
  lines = events_on (lines_of given) f.state

  -- after the whole lines
  abbrev next : Stream State
  next = after_piece after_event (stream_of f) p

  next_state : lines.state ≡ next.state
  next_state = events_fold (lines_of given) f.state

  fed_by : (a : EventResult) → events_on (run_lines given) f.state ≡ a → feed_on p f ≡ kept_after (over f.buffer f.held p) given a.answer a.state
  unfolding feed_on
  fed_by a e = rw e

  -- after a refusal: it is answered, nothing is kept, and the state is the one at the input's end
  pub record Halted : Type 0 where
    pub refusal : Refusal
    pub line : ℕ
    pub answered : (feed_on p f).answer ≡ Err (refusal_at refusal line)
    pub nothing : (feed_on p f).intake.held ≡ 0
    pub final : (ps : List Bytes) → after_end after_event (foldl (after_piece after_event) next ps) ≡ (feed_on p f).intake.state

  -- else the stream goes on
  pub record GoesOn : Type 0 where
    pub answered : (feed_on p f).answer ≡ Ok tt
    pub holds : Holds (feed_on p f).intake
    pub stream : stream_of (feed_on p f).intake ≡ next

  halted : (r : Refusal) (n : ℕ) (t : State) → feed_on p f ≡ kept_after (over f.buffer f.held p) given (Err (refusal_at r n)) t
      → ((ps : List Bytes) → after_end after_event (foldl (after_piece after_event) next ps) ≡ t) → Halted
  halted r n t e g =
      record {
        refusal = r;
        line = n;
        answered = ap (λ (z : IntakeResult). z.answer) e;
        nothing = ap (λ (z : IntakeResult). z.intake.held) e;
        final = λ ps. g ps ∙ sym (ap (λ (z : IntakeResult). z.intake.state) e);
      }

  goes_on : length (rest_of given) ≤ 16384 → feed_on p f ≡ kept_after (over f.buffer f.held p) given (Ok tt) lines.state → GoesOn
  goes_on h e =
      let b = over f.buffer f.held p in
      let n : length b ≡ 81920 = length_over f.buffer f.held p ∙ w.room in
      let k : take (length (rest_of given)) (over b 0 (rest_of given)) ≡ rest_of given =
      rw (over_start b (rest_of given) (omega arith)) (take-append_seam (rest_of given) (drop (length (rest_of given)) b)) in
      record {
        answered = ap (λ (z : IntakeResult). z.answer) e;
        holds = rw e (record { room = length_over b 0 (rest_of given) ∙ n; short = h; unbroken = rw k (rest_lacks given) });
        stream = rw e (λ i. record { state = next_state i; rest = k i });
      }

  pub by_fed : {C : Type 0} → (GoesOn → C) → (Halted → C) → C
  by_fed {C} on off =
      by_answer lines.answer
      (λ a. by_le (length (rest_of given)) 16384
      (λ h. on (goes_on h (fed_by lines (ap (λ (z : List Bytes). events_on z f.state) (lines_short given h)) ∙ ap (λ (x : Result Unit RefusedAt). kept_after (over f.buffer f.held p) given x lines.state) a)))
      (λ h. long_refused (rest_of given) h (rest_lacks given) lines.state (λ r n x.
      off (halted r n (event_on (rest_of given) lines.state).state
      (fed_by _ (ap (λ (z : List Bytes). events_on z f.state) (lines_long given h) ∙ (events_more (lines_of given) (rest_of given ∷ []) f.state a ∙ events_off (rest_of given) [] lines.state r n x)))
      (λ ps. cut_short after_event 16384 (λ s l t k u. (ap (λ (z : EventResult). z.state) (long_same l k u s t), long_still l k u s)) next ps (rest_lacks given) h
      ∙ ap (λ (s : State). after_event s (rest_of given)) (sym next_state))))))
      (λ r n a.
      off (halted r n lines.state
      (fed_by lines (run_enough given f.state r n a) ∙ ap (λ (x : Result Unit RefusedAt). kept_after (over f.buffer f.held p) given x lines.state) a)
      (λ ps. stopped_early after_event next ps (rest_lacks given) (rw (← next_state) (events_still (lines_of given) f.state r n a)) ∙ sym next_state)))

-- ---- pieces, read up to the first refusal

module _ (f : Intake) (p : Bytes) (ps : List Bytes) where
  read_on_lem : (feed_on p f).answer ≡ Ok tt → read_on (p ∷ ps) f ≡ read_on ps (feed_on p f).intake
  unfolding read_on
  read_on_lem a = rw a

  read_off : (r : Refusal) (n : ℕ) → (feed_on p f).answer ≡ Err (refusal_at r n) → read_on (p ∷ ps) f ≡ (feed_on p f).intake
  unfolding read_on
  read_off r n a = rw a

pub read_nothing : (f : Intake) → read_on [] f ≡ f
unfolding read_on
read_nothing f = refl

-- where nothing is kept, the state is the one at the end
end_nothing : (f : Intake) → f.held ≡ 0 → state_at_end f ≡ f.state
unfolding state_at_end
end_nothing f e = rw e

pub reads_stream : (ps : List Bytes) (f : Intake) → Holds f → state_at_end (read_on ps f) ≡ after_end after_event (foldl (after_piece after_event) (stream_of f) ps)
unfolding state_at_end
reads_stream [] f w = ap state_at_end (read_nothing f)
reads_stream (p ∷ ps) f w =
    by_fed f w p
    (λ g. ap state_at_end (read_on_lem f p ps g.answered) ∙ (reads_stream ps (feed_on p f).intake g.holds
    ∙ ap (λ (z : Stream State). after_end after_event (foldl (after_piece after_event) z ps)) g.stream))
    (λ g. ap state_at_end (read_off f p ps g.refusal g.line g.answered) ∙ (end_nothing (feed_on p f).intake g.nothing ∙ sym (g.final ps)))

-- ---- what `feed` needs at each piece

kept_state : (b s : Bytes) (a : Result Unit RefusedAt) (t : State) → (kept_after b s a t).intake.state ≡ t
kept_state b s (Ok tt) t = refl
kept_state b s (Err a) t = refl

-- a state that is sound but for its count of lines stays so
pub feed_given : (p : Bytes) (f : Intake) → RunGiven f.state → RunGiven (feed_on p f).intake.state
unfolding feed_on
feed_given p f w =
    let s = kept_line f ++ p in
    let a = events_on (run_lines s) f.state in
    rw (kept_state (over f.buffer f.held p) s a.answer a.state) (given_after (run_lines s) f.state w)

pub reads_given : (ps : List Bytes) (f : Intake) → RunGiven f.state → RunGiven (read_on ps f).state
reads_given [] f w = rw (read_nothing f) w
reads_given (p ∷ ps) f w =
    by_answer (feed_on p f).answer
    (λ a. rw (read_on_lem f p ps a) (reads_given ps (feed_on p f).intake (feed_given p f w)))
    (λ r n a. rw (read_off f p ps r n a) (feed_given p f w))
