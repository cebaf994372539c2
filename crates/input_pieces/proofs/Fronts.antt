-- A piece in its buffer.
use Rattle.std.specs.Prelude.{Ok, Err}
use Prim.Native.Nat.{ℕ, ◌+◌, ◌≤◌}
use mathlib.Core.Path.{◌≡◌, sym, ◌∙◌, ap}
use mathlib.Core.List.{◌++◌, append_assoc}
use native.Mathlib.Omega.{arith}
use lib.ListN.{length, take, drop, length-drop, length-take, take-append-drop}
use lib.Seq.{length-take-le}
use Rattle.std.proofs.lemmas.List.{drop-append-le}
use Rattle.base.specs.Bytes.{Bytes}
use Rattle.input_lines.specs.Lines.{lines_of, rest_of}
use Rattle.little.specs.Little.{over}
use Rattle.little.proofs.Overs.{length_over, over_start, used_over}
use Rattle.input_lines.specs.Place.{Front, keep_rest}
use Rattle.input_lines.proofs.Places.{slice_end}
use Rattle.reader.specs.State.{State, refusal_at}
use Rattle.reader.specs.Event.{EventResult}
use Rattle.reader.proofs.Answers.{by_answer}
use Rattle.reader_events.specs.Events.{events_on, taken_bytes, run_lines}
use Rattle.reader_events.proofs.Onward.{run_left}
use Rattle.input_pieces.specs.Feed.{Intake, IntakeResult, kept_after, feed_on}
use Rattle.input_buffer.specs.Fronts.{kept_front}

-- ---- a piece in its buffer

-- bytes over the front of a part are over that of the whole
over_part : (s t : Bytes) (n : ℕ) → length t ≤ n → n ≤ length s → over (take n s) 0 t ++ drop n s ≡ over s 0 t
over_part s t n h k =
    let l = length-take-le n s k in
    let e : drop (length t) (take n s) ++ drop n s ≡ drop (length t) s = sym (drop-append-le (length t) (take n s) (drop n s) (omega (arith, l))) ∙ ap (drop (length t)) (take-append-drop n s) in
    rw (over_start (take n s) t (omega (arith, l)), over_start s t (omega arith), append_assoc, e)

-- the buffer after a piece is copied into it, and how many of its bytes count
module _ (t : State) (b p : Bytes) (held : ℕ) (room : held + length p ≤ length b) (joined : Bytes) (filled : ℕ) (is : joined ≡ over b held p) (are : filled ≡ held + length p) where
  abbrev intake : Intake
  intake = record { state = t; buffer = b; held = held }

  front : take filled joined ≡ take held b ++ p
  front = rw (is, are) (used_over b held p room)

  within : filled ≤ length joined
  within = omega (arith, room, are, ap length is, length_over b held p)

  fed_as : (x : EventResult) → x ≡ events_on (run_lines (take filled joined)) t → feed_on p intake ≡ kept_after joined (take filled joined) x.answer x.state
  unfolding feed_on
  fed_as x e = rw (e, front, is)

  -- what is left of a front is kept, or nothing
  pub fed_by : (x : EventResult) (at : ℕ) → x ≡ events_on (run_lines (take filled joined)) t → at ≡ taken_bytes (lines_of (take filled joined)) t
      → (q : Bytes) (n : ℕ) → ◌≡◌ {A = Front} (record { buffer = q; kept = n }) (kept_front x.answer (take filled joined) at)
      → ◌≡◌ {A = IntakeResult} (record { intake = record { state = x.state; buffer = q ++ drop filled joined; held = n }; answer = x.answer }) (feed_on p intake)
  unfolding keep_rest
  fed_by x at e f q n k =
      sym (fed_as x e ∙ by_answer x.answer
      (λ a. let u = take filled joined in
      let r : drop at u ≡ rest_of u = ap (λ (m : ℕ). drop m u) f ∙ run_left u t (sym (ap (λ (z : EventResult). z.answer) e) ∙ a) in
      let j : ◌≡◌ {A = Front} (record { buffer = q; kept = n }) (record { buffer = over u 0 (rest_of u); kept = length (rest_of u) }) = rw (a, slice_end u at, r) at k in
      let m : q ++ drop filled joined ≡ over joined 0 (rest_of u) =
      ap (λ (z : Front). z.buffer ++ drop filled joined) j ∙ over_part joined (rest_of u) filled (omega (arith, ap length r, length-drop at u, length-take filled joined)) within in
      rw a (λ i. record { intake = record { state = x.state; buffer = sym m i; held = (sym j i).kept }; answer = Ok tt }))
      (λ r m a.
      let j : ◌≡◌ {A = Front} (record { buffer = q; kept = n }) (record { buffer = take filled joined; kept = 0 }) = rw a at k in
      let v : q ++ drop filled joined ≡ joined = ap (λ (z : Front). z.buffer ++ drop filled joined) j ∙ take-append-drop filled joined in
      rw a (λ i. record { intake = record { state = x.state; buffer = sym v i; held = (sym j i).kept }; answer = Err (refusal_at r m) })))

-- by the bytes of a piece that count, and by those held that do
pub fed_from : (t : State) (b : Bytes) {p q : Bytes} {n m : ℕ} → p ≡ q → n ≡ m
    → feed_on p (record { state = t; buffer = b; held = n }) ≡ feed_on q (record { state = t; buffer = b; held = m })
fed_from t b e h = λ i. feed_on (e i) (record { state = t; buffer = b; held = h i })
