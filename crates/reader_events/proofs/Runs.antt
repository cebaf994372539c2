-- The lines of a run, one at a time: what is to come from the present place on, after the present state, is what all lines come to. Soundness is tested once, since an event
-- keeps it, but for the count of lines.
use Rattle.reader.specs.declared.RefusedAt.{RefusedAt}
use Rattle.std.specs.Prelude.{Ok, Err, Result}
use Rattle.std.specs.Result.{is_err}
use Prim.Native.Nat.{ℕ, ◌+◌, ◌<◌, ◌≤◌}
use mathlib.Core.Path.{◌≡◌, refl, sym, ◌∙◌, ap}
use mathlib.Core.Bool.{true, false}
use mathlib.Core.List.{List, [], ◌∷◌, flatten}
use native.Mathlib.Omega.{arith}
use borrow.Author.Tests.{lt-ltb, le-leb, lt-leb}
use lib.Dec.{ltb}
use lib.ListN.{length, drop, length-append}
use Rattle.base.specs.Bytes.{Bytes, both}
use Rattle.base.proofs.Split.{both_of, both_left, both_right, no}
use Rattle.input_lines.specs.Lines.{lines_of, rest_of}
use Rattle.input_lines.proofs.Lines.{lines_joined}
use Rattle.compact.specs.declared.ArenaMeta.{ArenaMeta}
use Rattle.compact.specs.declared.PushHead.{PushHead}
use Rattle.overlay.specs.Given.{head_fits, meta_fits}
use Rattle.reader.specs.State.{State, reader_sound, state_sound, refusal_at}
use Rattle.reader.specs.Given.{StateGiven}
use Rattle.reader.specs.Event.{EventResult, event_on}
use Rattle.reader.proofs.Answers.{by_answer}
use Rattle.reader.proofs.Acts.{Fine}
use Rattle.reader.proofs.Keeps.{ReadyIn, event_fine, event_ready}
use Rattle.reader_sound.specs.Mark.{going_answer}
use Rattle.reader_sound.proofs.Mark.{by_refused, going_on}
use Rattle.reader_calls.proofs.Events.{event_checked}
use Rattle.reader_events.specs.Events.{events_on, taken_bytes, long_rest, run_lines, run_on}
use Rattle.reader_events.specs.Runs.{RunGiven}
use Rattle.reader_events.proofs.Onward.{events_on_lem, taken_on, events_off, taken_off, events_none, taken_none, events_one, run_enough, run_more, run_rest}
use Rattle.reader_events.proofs.Answers.{run_22, run_stopped, run_going}

-- ---- what is tested once

module _ (s : State) where
  pub sound_given : state_sound s ≡ true → StateGiven s → RunGiven s
  unfolding state_sound reader_sound
  sound_given e g = record { overlay = both_left _ _ e; pending = both_left _ _ (both_right _ _ e); bounds = g }

  -- then only the count of lines is left to be tested
  pub counts_sound : RunGiven s → ltb s.reader.lines 18446744073709551615 ≡ state_sound s
  unfolding state_sound reader_sound both
  counts_sound w = rw (w.overlay, w.pending)

  -- the same in two parts
  pub given_of : Fine s.overlay → ReadyIn s → RunGiven s
  given_of f r = record { overlay = f.sound; pending = r.sound; bounds = record { overlay = f.bytes; reader = r.given } }

  fine : RunGiven s → Fine s.overlay
  fine w = record { sound = w.overlay; bytes = w.bounds.overlay }

  ready : RunGiven s → ReadyIn s
  ready w = record { given = w.bounds.reader; sound = w.pending }

  -- an event keeps it, accepted or refused
  pub given_on : (line : Bytes) → RunGiven s → RunGiven (event_on line s).state
  given_on line w =
      let f = event_fine line s (fine w) (ready w) in
      let r = event_ready line s (fine w) (ready w) in
      record { overlay = f.sound; pending = r.sound; bounds = record { overlay = f.bytes; reader = r.given } }

-- and so do lines up to the first that is refused
pub given_after : (ls : List Bytes) (s : State) → RunGiven s → RunGiven (events_on ls s).state
given_after [] s w = rw (events_none s) w
given_after (l ∷ ls) s w =
    by_answer (event_on l s).answer
    (λ a. rw (events_on_lem l ls s a) (given_after ls (event_on l s).state (given_on s l w)))
    (λ r n a. rw (events_off l ls s r n a) (given_on s l w))

-- the numbers of a pending element fit their types
pub head_fits_lem : (h : PushHead) → h.id < 18446744073709551616 → h.lat < 4294967296 → h.lon < 4294967296 → h.count < 4294967296 → h.tags < 4294967296 → head_fits h ≡ true
unfolding head_fits
head_fits_lem h id lat lon count tags = both_of (lt-ltb _ _ id) (both_of (lt-ltb _ _ lat) (both_of (lt-ltb _ _ lon) (both_of (lt-ltb _ _ count) (lt-ltb _ _ tags))))

pub meta_fits_lem : (m : ArenaMeta) → m.flags < 256 → m.version < 4294967296 → m.timestamp < 18446744073709551616 → m.changeset < 18446744073709551616 → m.uid < 4294967296
    → m.user < 4294967296 → meta_fits m ≡ true
unfolding meta_fits
meta_fits_lem m flags version timestamp changeset uid user =
    both_of (lt-ltb _ _ flags) (both_of (lt-ltb _ _ version) (both_of (lt-ltb _ _ timestamp) (both_of (lt-ltb _ _ changeset) (both_of (lt-ltb _ _ uid) (lt-ltb _ _ user)))))

-- ---- the test, before the first line

abbrev pub Came : Bytes → State → EventResult → ℕ → Type 0
Came run s x taken = (x ≡ run_on run s) × (taken ≡ taken_bytes (lines_of run) s)

module _ (run : Bytes) (s : State) where
  -- then nothing is taken
  none_taken : {a : RefusedAt} → going_answer (state_sound s) s.reader.stop ≡ Err a → (ls : List Bytes) → taken_bytes ls s ≡ 0
  none_taken e [] = taken_none s
  none_taken {a} e (l ∷ ls) = taken_off l ls s a.refusal a.line (sym (ap (λ (z : EventResult). z.answer) (event_checked l s e)))

  pub came_refused : (x : Result Unit RefusedAt) → is_err x ≡ true → x ≡ going_answer (state_sound s) s.reader.stop → Came run s (record { state = s; answer = x }) 0
  came_refused (Ok u) k g = no (cc)
  came_refused (Err a) k g = (
    by_refused (state_sound s) s.reader.stop a (sym g) (λ u z. rw z (sym (run_22 run s u))) (λ u m t. sym (run_stopped run s a.refusal a.line u m t)),
    sym (none_taken (sym g) (lines_of run)),
  )

  pub came_going : going_answer (state_sound s) s.reader.stop ≡ Ok tt → {x : EventResult} → x ≡ events_on (run_lines run) s → x ≡ run_on run s
  came_going g e = let w = going_on (state_sound s) s.reader.stop g in e ∙ sym (run_going run s w.0 w.1)

-- ---- all lines

abbrev pub CameLines : List Bytes → State → EventResult → ℕ → Type 0
CameLines ls s x taken = (x ≡ events_on ls s) × (taken ≡ taken_bytes ls s)

pub accepted : (a : Result Unit RefusedAt) → is_err a ≡ false → a ≡ Ok tt
accepted (Ok tt) k = refl
accepted (Err a) k = no (cc)

-- the lines that are left, after so many bytes that were taken
pub record Running (ls : List Bytes) (s₀ : State) (left : List Bytes) (taken : ℕ) (s : State) : Type 0 where
  pub total : events_on ls s₀ ≡ events_on left s
  pub bytes : taken_bytes ls s₀ ≡ taken + taken_bytes left s
  pub given : RunGiven s

pub run_start : (ls : List Bytes) (s : State) → RunGiven s → Running ls s ls 0 s
run_start ls s k = record { total = refl; bytes = omega arith; given = k }

module _ {ls : List Bytes} {s₀ : State} {left : List Bytes} {taken : ℕ} {s : State} (w : Running ls s₀ left taken s) where
  module _ {l : Bytes} {more : List Bytes} (e : left ≡ l ∷ more) (x : EventResult) (f : x ≡ event_on l s) where
    -- a line more
    pub line_on : is_err x.answer ≡ false → Running ls s₀ more (taken + length l) x.state
    line_on k =
        let a : (event_on l s).answer ≡ Ok tt = sym (ap (λ (z : EventResult). z.answer) f) ∙ accepted x.answer k in
        rw f (record {
          total = w.total ∙ rw e (events_on_lem l more s a);
          bytes = w.bytes ∙ rw (e, taken_on l more s a) (omega arith);
          given = given_on s l w.given;
        })

    -- or it is refused
    pub line_off : is_err x.answer ≡ true → CameLines ls s₀ x taken
    line_off k =
        by_answer x.answer
        (λ a. let z : is_err x.answer ≡ false = rw a in no (cc))
        (λ r n a.
        let b : (event_on l s).answer ≡ Err (refusal_at r n) = sym (ap (λ (z : EventResult). z.answer) f) ∙ a in (
          rw (a, f, w.total, e) (sym (events_off l more s r n b)),
          omega (arith, w.bytes, ap (λ (z : List Bytes). taken_bytes z s) e, taken_off l more s r n b),
        ))

  -- no line is left
  pub lines_end : left ≡ [] → CameLines ls s₀ (record { state = s; answer = Ok tt }) taken
  lines_end e = (rw (w.total, e) (sym (events_none s)), omega (arith, w.bytes, ap (λ (z : List Bytes). taken_bytes z s) e, taken_none s))

-- ---- what is left behind the lines of a run

-- all of it, without the test
abbrev pub CameUntested : Bytes → State → EventResult → ℕ → Type 0
CameUntested run s x taken = (x ≡ events_on (run_lines run) s) × (taken ≡ taken_bytes (lines_of run) s)

module _ (run : Bytes) (s₀ : State) (taken : ℕ) where
  -- a line was refused: what is left is not looked at
  pub came_off : (x : EventResult) → CameLines (lines_of run) s₀ x taken → is_err x.answer ≡ true → CameUntested run s₀ x taken
  came_off x w k =
      by_answer x.answer
      (λ a. let z : is_err x.answer ≡ false = rw a in no (cc))
      (λ r n a. (w.0 ∙ sym (run_enough run s₀ r n (sym (ap (λ (z : EventResult). z.answer) w.0) ∙ a)), w.1))

  -- else it decides
  pub came_rest : (s : State) → CameLines (lines_of run) s₀ (record { state = s; answer = Ok tt }) taken → (x : EventResult) → x ≡ events_on (long_rest (drop taken run)) s → CameUntested run s₀ x taken
  came_rest s w x e =
      let a : (events_on (lines_of run) s₀).answer ≡ Ok tt = sym (ap (λ (z : EventResult). z.answer) w.0) in
      let d : drop taken run ≡ rest_of run = ap (λ (n : ℕ). drop n run) w.1 ∙ run_rest run s₀ a in
      (e ∙ ((λ i. events_on (long_rest (d i)) (w.0 i).state) ∙ sym (run_more run s₀ a)), w.1)

-- it is short, or an event
pub rest_short : (rest : Bytes) (s : State) → length rest ≤ 16384 → record { state = s; answer = Ok tt } ≡ events_on (long_rest rest) s
rest_short rest s h = rw (le-leb (length rest) 16384 h) (sym (events_none s))

pub rest_long : (rest : Bytes) (s : State) → 16384 < length rest → {x : EventResult} → x ≡ event_on rest s → x ≡ events_on (long_rest rest) s
rest_long rest s h e = rw (lt-leb (length rest) 16384 h) (e ∙ sym (events_one rest s))

-- the lines that are left lie within the run, behind the bytes that were taken
abbrev pub Within : Bytes → List Bytes → ℕ → Type 0
Within run left taken = taken + length (flatten left) ≤ length run

pub within_start : (run : Bytes) → Within run (lines_of run) 0
within_start run = omega (arith, ap length (lines_joined run), length-append (flatten (lines_of run)) (rest_of run))

pub within_line : (run : Bytes) {left : List Bytes} (taken : ℕ) → Within run left taken → {l : Bytes} {more : List Bytes} → left ≡ l ∷ more → Within run more (taken + length l)
unfolding flatten
within_line run taken w {l} {more} e = omega (arith, ap (λ (z : List Bytes). length (flatten z)) e, length-append l (flatten more))
