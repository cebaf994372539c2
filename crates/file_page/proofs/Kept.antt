-- What a file's reader is after each byte, whatever the byte: sound but for its count of line feeds, which rises by at most one at a line feed.
use Rattle.reader.specs.declared.RefusedAt.{RefusedAt}
use Rattle.std.specs.Prelude.{Ok, Err, Result}
use Prim.Native.Nat.{ℕ, ◌+◌, ◌≤◌}
use mathlib.Core.Path.{◌≡◌, refl}
use mathlib.Core.Bool.{Bool, true, false, cond}
use mathlib.Core.List.{[], ◌∷◌}
use native.Mathlib.Omega.{arith}
use borrow.Author.Tests.{le-leb, leb-true, eq-eqb, eqb-true}
use lib.Dec.{eqb, ltb}
use lib.ListN.{length, take, drop, length-take}
use Rattle.base.specs.Bytes.{Bytes, both, either}
use Rattle.base.specs.Chars.{horizontal_tab, line_feed}
use Rattle.base.proofs.Split.{by_bool, both_of, both_left, both_right, no}
use Rattle.little.specs.Little.{over}
use Rattle.refusal.specs.declared.Refusal.{Refusal}
use Rattle.refusal.specs.declared.Refusal.TheVariants as R
use Rattle.nesting.specs.declared.Place.{Place}
use Rattle.event.specs.Event.{starts, closes, others}
use Rattle.markup.specs.Signs.{less_than_sign}
use Rattle.markup.specs.Automaton.{Moved, continues, completes, malformed, MarkupState, markup_step}
use Rattle.markup.specs.Markup.{Meaning, means_event, no_event}
use Rattle.markup.specs.MarkupBytes.{char_step}
use Rattle.file_lexer.specs.Lexing.{Where, between, within, Lexing, Told, more, markup, not_markup, LexedByte, counted, char_taken, byte_taken, lex_at, lex_byte}
use Rattle.reader.specs.State.{State, refusal_at, state_sound, stops_by}
use Rattle.reader.specs.Event.{EventResult, event_on}
use Rattle.reader.proofs.Answers.{by_answer}
use Rattle.reader.proofs.Acts.{Fine}
use Rattle.reader.proofs.Events.{event_refused_same, marked}
use Rattle.reader.proofs.Keeps.{ReadyIn, event_fine, event_ready}
use Rattle.file_reader.specs.File.{FileState, with_lines, at_markup, lexing_in, with_lexing, keeps_name, before_tab, kept_line, line_written, tag_line, twice_stop, unless_twice, markup_event, markup_refused, behind_markup, named_behind, started, start_tag_ends, closed_behind, close_line, is_open, open_name, end_tag_ends, skipped, markup_ended, markup_malformed, told_on, file_byte, bytes_onward, file_bytes}
use Rattle.file_reader.specs.Calls.{place_sound}
use Rattle.file_page.specs.Roadfile.{line_feeds}

-- ---- the state of the events

-- sound but for its count
pub record KeptState (s : State) : Type 0 where
  pub fine : Fine s.overlay
  pub ready : ReadyIn s

-- whatever that count is
with_lines_kept : (n : ℕ) (s : State) → KeptState s → KeptState (with_lines n s)
with_lines_kept n s k =
    let g = k.ready.given in
    record { fine = k.fine; ready = record { given = record { head = g.head; meta = g.meta; bytes = g.bytes; room = g.room }; sound = k.ready.sound } }

marked_kept : (s : State) (r : Refusal) (n : ℕ) → KeptState s → KeptState (marked s r n)
marked_kept s r n k =
    let g = k.ready.given in
    record { fine = k.fine; ready = record { given = record { head = g.head; meta = g.meta; bytes = g.bytes; room = g.room }; sound = k.ready.sound } }

-- what an event leaves: that, and where it is refused the place that was
record KeptEvent (p : Place) (x : EventResult) : Type 0 where
  state : KeptState x.state
  place : (a : RefusedAt) → x.answer ≡ Err a → x.state.reader.place ≡ p

event_kept : (line : Bytes) (s : State) → KeptState s → KeptEvent s.reader.place (event_on line s)
event_kept line s k =
    record {
      state = record { fine = event_fine line s k.fine k.ready; ready = event_ready line s k.fine k.ready };
      place = λ a e. rw (event_refused_same line s a.refusal a.line e) (by_bool (stops_by a.refusal) (λ t. rw t) (λ t. rw t));
    }

refused_kept : (r : Refusal) (s : State) → KeptState s → KeptEvent s.reader.place (markup_refused r s)
refused_kept r s k =
    by_bool (state_sound s)
    (λ e. rw e (record { state = marked_kept s r (s.reader.lines + 1) k; place = λ a z. refl }))
    (λ e. rw e (record { state = k; place = λ a z. refl }))

-- an attribute twice: the stop mark says so
twice_kept : (p : Place) (x : EventResult) (a : RefusedAt) → x.answer ≡ Err a → KeptEvent p x → (r : Refusal) → KeptEvent p (twice_stop x a r)
twice_kept p x a e k R.Size = k
twice_kept p x a e k R.LongLine = k
twice_kept p x a e k R.NotText = k
twice_kept p x a e k R.NotEventLine = record { state = marked_kept x.state R.NotMarkup a.line k.state; place = λ b z. k.place a e }
twice_kept p x a e k R.Misplaced = k
twice_kept p x a e k R.OutsideSection = k
twice_kept p x a e k R.Missing = k
twice_kept p x a e k R.NotInteger = k
twice_kept p x a e k R.NotTimestamp = k
twice_kept p x a e k R.CoordinateRange = k
twice_kept p x a e k R.MemberType = k
twice_kept p x a e k (R.Regression v) = k
twice_kept p x a e k R.StringsFull = k
twice_kept p x a e k R.IdsFull = k
twice_kept p x a e k R.ArenaFull = k
twice_kept p x a e k R.TooManyParts = k
twice_kept p x a e k R.BadRecord = k
twice_kept p x a e k R.Unfinished = k
twice_kept p x a e k R.ShortOutput = k
twice_kept p x a e k R.NotInOrder = k
twice_kept p x a e k R.NoSuchNumber = k
twice_kept p x a e k R.Unsound = k
twice_kept p x a e k R.NotDegrees = k
twice_kept p x a e k R.BothForms = k
twice_kept p x a e k R.NotMarkup = k
twice_kept p x a e k R.UnmatchedEndTag = k

unless_twice_kept : (p : Place) (x : EventResult) → KeptEvent p x → (y : Result Unit RefusedAt) → x.answer ≡ y → KeptEvent p (unless_twice x y)
unless_twice_kept p x k (Ok tt) e = k
unless_twice_kept p x k (Err a) e = twice_kept p x a e k a.refusal

markup_event_kept : (line : Bytes) (s : State) → KeptState s → KeptEvent s.reader.place (markup_event line s)
markup_event_kept line s k = unless_twice_kept s.reader.place (event_on line s) (event_kept line s k) (event_on line s).answer refl

-- ---- a file's reader

abbrev pub NameKept : Place → ℕ → Type 0
NameKept p named = (named ≤ 16384) × (either (keeps_name p.level) (eqb named 0) ≡ true)

pub no_name : (p : Place) → NameKept p 0
unfolding either
no_name p = (omega arith, by_bool (keeps_name p.level) (λ e. rw e) (λ e. rw e))

pub record Kept (lines : ℕ) (f : FileState) : Type 0 where
  pub state : KeptState f.state
  pub place : place_sound f.place f ≡ true
  pub name : NameKept f.state.reader.place f.named
  pub counted : f.state.reader.lines ≤ lines

-- ---- a markup's end

before_tab_short : (s : Bytes) → length (before_tab s) ≤ length s
unfolding before_tab
before_tab_short [] = omega arith
before_tab_short (b ∷ s) = by_bool (eqb b horizontal_tab) (λ e. rw e (omega arith)) (λ e. rw e (omega (arith, before_tab_short s)))

take_short : (n : ℕ) (s : Bytes) → length (take n s) ≤ n
take_short n s = omega (arith, length-take n s)

module _ {lines : ℕ} (f : FileState) (n : f.state.reader.lines ≤ lines) where
  behind_kept : (x : EventResult) (bytes : Bytes) (named : ℕ) → KeptState x.state → NameKept x.state.reader.place named → Kept lines (behind_markup f x bytes named).file
  unfolding both
  behind_kept x bytes named k m = record { state = with_lines_kept f.state.reader.lines x.state k; place = refl; name = m; counted = n }

  module _ (m : NameKept f.state.reader.place f.named) where
    -- a refused event leaves the name that is kept
    off_kept : (x : EventResult) (bytes : Bytes) → KeptEvent f.state.reader.place x → (a : RefusedAt) → x.answer ≡ Err a → Kept lines (behind_markup f x bytes f.named).file
    off_kept x bytes k a e = behind_kept x bytes f.named k.state (rw (k.place a e) m)

    named_kept : f.used ≤ 16380 → (bytes : Bytes) (x : EventResult) → KeptState x.state → (b : Bool)
        → keeps_name x.state.reader.place.level ≡ b → Kept lines (named_behind f bytes x b).file
    unfolding either
    named_kept u bytes x k false e = behind_kept x bytes 0 k (no_name x.state.reader.place)
    named_kept u bytes x k true e =
        behind_kept x (over bytes 16387 (before_tab (kept_line f))) (length (before_tab (kept_line f))) k
        (omega (arith, u, before_tab_short (kept_line f), take_short f.used (drop 6 f.bytes)), rw e)

    started_kept : f.used ≤ 16380 → (bytes : Bytes) (x : EventResult) → KeptEvent f.state.reader.place x
        → (y : Result Unit RefusedAt) → x.answer ≡ y → Kept lines (started f bytes x y).file
    started_kept u bytes x k (Ok tt) e = named_kept u bytes x k.state (keeps_name x.state.reader.place.level) refl
    started_kept u bytes x k (Err a) e = off_kept x bytes k a e

    closed_kept : (x : EventResult) → KeptEvent f.state.reader.place x → (y : Result Unit RefusedAt) → x.answer ≡ y → Kept lines (closed_behind f x y).file
    closed_kept x k (Ok tt) e = behind_kept x f.bytes 0 k.state (no_name x.state.reader.place)
    closed_kept x k (Err a) e = off_kept x f.bytes k a e

    module _ (k : KeptState f.state) where
      at_kept : KeptState (at_markup f)
      at_kept = with_lines_kept f.feeds f.state k

      -- 25 and 26
      malformed_kept : (r : Refusal) → Kept lines (behind_markup f (markup_refused r (at_markup f)) f.bytes f.named).file
      malformed_kept r =
          let w = refused_kept r (at_markup f) at_kept in
          by_answer (markup_refused r (at_markup f)).answer
          (λ a. by_bool (state_sound (at_markup f)) (λ e. let z = rw e at a in no (cc)) (λ e. let z = rw e at a in no (cc)))
          (λ x l a. off_kept (markup_refused r (at_markup f)) f.bytes w (refusal_at x l) a)

      start_tag_kept : f.used ≤ 16380 → (empty : Bool) → Kept lines (start_tag_ends empty f).file
      unfolding start_tag_ends
      start_tag_kept u empty =
          let x = markup_event (tag_line empty f) (at_markup f) in
          started_kept u (line_written empty f) x (markup_event_kept (tag_line empty f) (at_markup f) at_kept) x.answer refl

      end_tag_kept : Kept lines (end_tag_ends f).file
      unfolding end_tag_ends
      end_tag_kept =
          by_bool (is_open (kept_line f) (open_name f))
          (λ e. rw e (closed_kept (event_on close_line (at_markup f)) (event_kept close_line (at_markup f) at_kept) (event_on close_line (at_markup f)).answer refl))
          (λ e. rw e (malformed_kept R.UnmatchedEndTag))

      skipped_kept : Kept lines (skipped f).file
      skipped_kept = behind_kept (record { state = f.state; answer = Ok tt }) f.bytes f.named k m

      ended_kept : f.used ≤ 16380 → (x : Meaning) → Kept lines (markup_ended x f).file
      unfolding markup_ended
      ended_kept u (means_event (starts empty name attrs) l) = start_tag_kept u empty
      ended_kept u (means_event closes l) = end_tag_kept
      ended_kept u (means_event others l) = skipped_kept
      ended_kept u no_event = skipped_kept

      not_markup_kept : Kept lines (markup_malformed f).file
      unfolding markup_malformed
      not_markup_kept = malformed_kept R.NotMarkup

-- ---- a byte

abbrev feed : ℕ → ℕ
feed b = cond (eqb b line_feed) 1 0

counted_up : (b n : ℕ) → (n ≤ counted b n) × (counted b n ≤ n + feed b)
unfolding counted both
counted_up b n =
    by_bool (eqb b line_feed)
    (λ e. by_bool (ltb n 18446744073709551615) (λ g. rw (e, g) (omega arith, omega arith)) (λ g. rw (e, g) (omega arith, omega arith)))
    (λ e. rw e (omega arith, omega arith))

-- what a lexer is: between markups nothing is kept of one; within one its line feeds are some of those so far, and its line is within its room
abbrev LexSound : Where → Lexing → Type 0
LexSound (between before) l = (l.feeds ≡ 0) × (l.used ≡ 0)
LexSound (within s) l = (l.feeds ≤ l.lines) × (l.used ≤ 16380)

record KeptByte (b : ℕ) (l : Lexing) (x : LexedByte) : Type 0 where
  lines : x.lexing.lines ≤ l.lines + feed b
  used : x.lexing.used ≤ 16380
  place : x.told ≡ more → LexSound x.lexing.place x.lexing

module _ (b : ℕ) (l : Lexing) where
  module _ (w : (l.feeds ≤ l.lines) × (l.used ≤ 16380)) where
    char_kept : (p : MarkupState) (x : Moved MarkupState Meaning) → KeptByte b l (char_taken b p l x)
    char_kept p (continues q) =
        let c = counted_up b l.lines in
        record { lines = c.1; used = omega arith; place = λ e. (omega (arith, w.0, c.0), omega arith) }
    char_kept p (completes m) = record { lines = omega arith; used = w.1; place = λ e. no (cc) }
    char_kept p malformed = record { lines = omega arith; used = w.1; place = λ e. no (cc) }

    byte_kept : (p : MarkupState) (x : Moved Bytes ℕ) → KeptByte b l (byte_taken b p l x)
    byte_kept p (continues s) = record { lines = omega arith; used = w.1; place = λ e. w }
    byte_kept p (completes c) = char_kept p (markup_step p c)
    byte_kept p malformed = record { lines = omega arith; used = w.1; place = λ e. no (cc) }

  lexed_kept : (p : Where) → LexSound p l → KeptByte b l (lex_at p b l)
  lexed_kept (between before) w =
      by_bool (eqb b less_than_sign)
      (λ e. rw e (record { lines = omega arith; used = omega arith; place = λ z. (omega arith, omega arith) }))
      (λ e. rw e (record { lines = (counted_up b l.lines).1; used = omega (arith, w.1); place = λ z. w }))
  lexed_kept (within s) w = byte_kept w s.markup (char_step s.bytes b)

place_lex : (p : Where) (f : FileState) → place_sound p f ≡ true → LexSound p (lexing_in f)
place_lex (between before) f e = (eqb-true _ _ (both_left _ _ e), eqb-true _ _ (both_right _ _ e))
place_lex (within s) f e = (leb-true _ _ (both_left _ _ e), leb-true _ _ (both_right _ _ e))

lex_place : (p : Where) (f : FileState) (l : Lexing) → LexSound p l → place_sound p (with_lexing f l) ≡ true
lex_place (between before) f l w = both_of (eq-eqb _ _ w.0) (eq-eqb _ _ w.1)
lex_place (within s) f l w = both_of (le-leb _ _ w.0) (le-leb _ _ w.1)

module _ (b : ℕ) {lines : ℕ} (f : FileState) (k : Kept lines f) where
  told_kept : (x : LexedByte) → KeptByte b (lexing_in f) x → (t : Told) → x.told ≡ t → Kept (lines + feed b) (told_on t (with_lexing f x.lexing)).file
  told_kept x w more e =
      record {
        state = with_lines_kept x.lexing.lines f.state k.state;
        place = lex_place x.lexing.place f x.lexing (w.place e);
        name = k.name;
        counted = omega (arith, w.lines, k.counted);
      }
  told_kept x w (markup m) e =
      ended_kept (with_lexing f x.lexing) (omega (arith, w.lines, k.counted)) k.name (with_lines_kept x.lexing.lines f.state k.state) w.used m
  told_kept x w not_markup e = not_markup_kept (with_lexing f x.lexing) (omega (arith, w.lines, k.counted)) k.name (with_lines_kept x.lexing.lines f.state k.state)

  pub file_byte_kept : Kept (lines + feed b) (file_byte b f).file
  unfolding file_byte lex_byte
  file_byte_kept =
      let x = lex_byte (lexing_in f) b in
      told_kept x (lexed_kept b (lexing_in f) f.place (place_lex f.place f k.place)) x.told refl

-- ---- bytes

pub kept_more : {n m : ℕ} {f : FileState} → n ≤ m → Kept n f → Kept m f
kept_more h k = record { state = k.state; place = k.place; name = k.name; counted = omega (arith, h, k.counted) }

onward_kept : (bs : Bytes) (n : ℕ) → ((f : FileState) → Kept n f → Kept (n + line_feeds bs) (file_bytes bs f).file) → (x : Result Unit RefusedAt) (f : FileState) → Kept n f
    → Kept (n + line_feeds bs) (bytes_onward (file_bytes bs) x f).file
onward_kept bs n h (Ok tt) f k = h f k
onward_kept bs n h (Err a) f k = kept_more (omega arith) k

pub file_bytes_kept : (bs : Bytes) (n : ℕ) (f : FileState) → Kept n f → Kept (n + line_feeds bs) (file_bytes bs f).file
unfolding file_bytes line_feeds
file_bytes_kept [] n f k = kept_more (omega arith) k
file_bytes_kept (b ∷ bs) n f k =
    kept_more (omega arith) (onward_kept bs (n + feed b) (λ g. file_bytes_kept bs (n + feed b) g) (file_byte b f).answer (file_byte b f).file (file_byte_kept b f k))
