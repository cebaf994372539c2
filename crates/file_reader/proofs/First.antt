-- A markup, a piece of a file and its end are refused by the first condition of their table that holds, with its line and its HELD, and accepted where none holds.
use Rattle.reader.specs.declared.RefusedAt.{RefusedAt}
use Rattle.std.specs.Prelude.{Ok, Err, Result, Option, Some, None, option_map, map}
use Prim.Native.Nat.{ℕ, ◌+◌}
use mathlib.Core.Path.{◌≡◌, refl, sym, ◌∙◌, ap}
use mathlib.Core.Bool.{Bool, true, false, not}
use mathlib.Core.List.{List, [], ◌∷◌, ◌++◌}
use Rattle.base.specs.Bytes.{Bytes}
use Rattle.base.proofs.Split.{by_bool}
use Rattle.refusal.specs.First.{ConditionRow, row, first_of}
use Rattle.refusal.proofs.First.{before, first_more}
use Rattle.refusal.specs.declared.Refusal.{Refusal}
use Rattle.refusal.specs.declared.Refusal.TheVariants as R
use Rattle.nesting.specs.declared.Level.{Level}
use Rattle.nesting.specs.declared.Level.TheVariants as L
use Rattle.event.specs.Event.{starts, closes, others}
use Rattle.markup.specs.Markup.{Meaning, means_event, no_event}
use Rattle.file_lexer.specs.Lexing.{Where, between, within, Told, more, markup, not_markup, lex_byte}
use Rattle.reader.specs.State.{State, refusal_at, next_line, stops_by, state_sound}
use Rattle.reader.specs.Event.{EventResult, end_at, event_on}
use Rattle.reader.specs.Table.{answer_by, stop_rows, event_table, is_done}
use Rattle.reader.proofs.Tables.{event_first}
use Rattle.reader.proofs.Answers.{event_22}
use Rattle.file_reader.specs.File.{FileState, FileResult, at_markup, lexing_in, with_lexing, is_open, open_name, kept_line, tag_line, line_written, keeps_name, named_behind, started, start_tag_ends, closed_behind, close_line, end_tag_ends, twice_stop, unless_twice, markup_event, markup_ended, markup_malformed, told_on, file_byte, bytes_onward, file_bytes}
use Rattle.file_reader.specs.Calls.{file_sound, unless_file_stopped, unless_file_unsound, piece_on, ends_at, file_end_on}
use Rattle.file_reader.specs.First.{first_rows, markup_rows, twice_given, twice_as_markup, tag_table, ended_table, markup_table, byte_table, bytes_table, piece_table, is_within, file_end_table}

-- ---- 22 and the stop mark, then what comes behind them

module _ (f : FileState) (x : FileResult) (rows : List (ConditionRow RefusedAt)) (h : x.answer ≡ answer_by (first_of rows)) where
  behind_mark : (m : Option RefusedAt) → (unless_file_stopped m f x).answer ≡ answer_by (first_of (stop_rows m ++ rows))
  unfolding first_of
  behind_mark None = h
  behind_mark (Some a) = by_bool (stops_by a.refusal) (λ t. rw t) (λ t. rw t h)

  asked_first : (unless_file_unsound f (unless_file_stopped f.state.reader.stop f x)).answer ≡ answer_by (first_of (first_rows f ++ rows))
  unfolding first_of
  asked_first = by_bool (file_sound f) (λ u. rw u (behind_mark f.state.reader.stop)) (λ u. rw u)

-- ---- a start tag

-- its answer is that of its event
started_answer : (f : FileState) (b : Bytes) (r : EventResult) (x : Result Unit RefusedAt) → (started f b r x).answer ≡ r.answer
started_answer f b r (Err a) = refl
started_answer f b r (Ok tt) = named (keeps_name r.state.reader.place.level)
  where
    named : (t : Bool) → (named_behind f b r t).answer ≡ r.answer
    named false = refl
    named true = refl

-- 4 becomes 25, in an answer as in a row
abbrev given_as_markup : RefusedAt → RefusedAt
given_as_markup a = refusal_at (twice_given a.refusal) a.line

given_first : (rows : List (ConditionRow RefusedAt)) → first_of (map twice_as_markup rows) ≡ option_map given_as_markup (first_of rows)
unfolding first_of
given_first [] = refl
given_first (r ∷ rows) = by_bool r.holds (λ t. rw t) (λ t. rw t (given_first rows))

twice_answer : (r : EventResult) (n : ℕ) (x : Refusal) → r.answer ≡ Err (refusal_at x n) → (twice_stop r (refusal_at x n) x).answer ≡ Err (refusal_at (twice_given x) n)
twice_answer r n R.NotEventLine e = refl
twice_answer r n R.Size e = e
twice_answer r n R.LongLine e = e
twice_answer r n R.NotText e = e
twice_answer r n R.Misplaced e = e
twice_answer r n R.OutsideSection e = e
twice_answer r n R.Missing e = e
twice_answer r n R.NotInteger e = e
twice_answer r n R.NotTimestamp e = e
twice_answer r n R.CoordinateRange e = e
twice_answer r n R.MemberType e = e
twice_answer r n (R.Regression v) e = e
twice_answer r n R.StringsFull e = e
twice_answer r n R.IdsFull e = e
twice_answer r n R.ArenaFull e = e
twice_answer r n R.TooManyParts e = e
twice_answer r n R.BadRecord e = e
twice_answer r n R.Unfinished e = e
twice_answer r n R.ShortOutput e = e
twice_answer r n R.NotInOrder e = e
twice_answer r n R.NoSuchNumber e = e
twice_answer r n R.Unsound e = e
twice_answer r n R.NotDegrees e = e
twice_answer r n R.BothForms e = e
twice_answer r n R.NotMarkup e = e
twice_answer r n R.UnmatchedEndTag e = e

given_answer : (r : EventResult) (x : Option RefusedAt) → r.answer ≡ answer_by x → (unless_twice r (answer_by x)).answer ≡ answer_by (option_map given_as_markup x)
given_answer r None e = e
given_answer r (Some a) e = twice_answer r a.line a.refusal e

tag_first : (line : Bytes) (s : State) → (markup_event line s).answer ≡ answer_by (first_of (tag_table line s))
tag_first line s =
    let e : (event_on line s).answer ≡ answer_by (first_of (event_table line s)) = event_first line s in
    ap (λ (x : Result Unit RefusedAt). (unless_twice (event_on line s) x).answer) e
    ∙ (given_answer (event_on line s) (first_of (event_table line s)) e ∙ ap answer_by (sym (given_first (event_table line s))))

-- ---- a markup

module _ (f : FileState) where
  start_tag_first : (empty : Bool) → (start_tag_ends empty f).answer ≡ answer_by (first_of (tag_table (tag_line empty f) (at_markup f)))
  unfolding start_tag_ends
  start_tag_first empty =
      let r = markup_event (tag_line empty f) (at_markup f) in
      started_answer f (line_written empty f) r r.answer ∙ tag_first (tag_line empty f) (at_markup f)

  closed_answer : (r : EventResult) (x : Result Unit RefusedAt) → (closed_behind f r x).answer ≡ r.answer
  closed_answer r (Ok tt) = refl
  closed_answer r (Err a) = refl

  end_tag_first : (end_tag_ends f).answer
      ≡ answer_by (first_of (markup_rows R.UnmatchedEndTag (not (is_open (kept_line f) (open_name f))) f ++ event_table close_line (at_markup f)))
  unfolding first_of end_tag_ends
  end_tag_first =
      let s = at_markup f in
      let r = event_on close_line s in
      by_bool (is_open (kept_line f) (open_name f))
      (λ o. by_bool (state_sound s)
      (λ u. rw (o, u) (closed_answer r r.answer ∙ event_first close_line s))
      (λ u. rw (o, u) (closed_answer r r.answer ∙ ap (λ (z : EventResult). z.answer) (event_22 close_line s u))))
      (λ o. by_bool (state_sound s) (λ u. rw (o, u)) (λ u. rw (o, u)))

  malformed_first : (markup_malformed f).answer ≡ answer_by (first_of (markup_rows R.NotMarkup true f))
  unfolding first_of markup_malformed
  malformed_first = by_bool (state_sound (at_markup f)) (λ u. rw u) (λ u. rw u)

  ended_first : (m : Meaning) → (markup_ended m f).answer ≡ answer_by (first_of (ended_table m f))
  unfolding first_of markup_ended ended_table
  ended_first (means_event (starts empty n attrs) m) = start_tag_first empty
  ended_first (means_event closes m) = end_tag_first
  ended_first (means_event others m) = refl
  ended_first no_event = refl

  pub markup_first : (told : Told) → (told_on told f).answer ≡ answer_by (first_of (markup_table told f))
  unfolding first_of markup_table
  markup_first more = refl
  markup_first (markup m) = ended_first m
  markup_first not_markup = malformed_first

-- ---- a piece

-- a byte's rows, then those of the bytes behind it
onward_first : (next : FileState → FileResult) (g : FileState) (a : Result Unit RefusedAt) (x y : Option RefusedAt)
    → a ≡ answer_by x → (next g).answer ≡ answer_by y → (bytes_onward next a g).answer ≡ answer_by (before x y)
onward_first next g a None y e h = rw e h
onward_first next g a (Some r) y e h = rw e

byte_first : (b : ℕ) (f : FileState) → (file_byte b f).answer ≡ answer_by (first_of (byte_table b f))
unfolding file_byte
byte_first b f = markup_first (with_lexing f (lex_byte (lexing_in f) b).lexing) (lex_byte (lexing_in f) b).told

bytes_first : (bs : Bytes) (f : FileState) → (file_bytes bs f).answer ≡ answer_by (first_of (bytes_table bs f))
unfolding first_of file_bytes bytes_table
bytes_first [] f = refl
bytes_first (b ∷ bs) f =
    let g = (file_byte b f).file in
    onward_first (file_bytes bs) g (file_byte b f).answer (first_of (byte_table b f)) (first_of (bytes_table bs g)) (byte_first b f) (bytes_first bs g)
    ∙ sym (ap answer_by (first_more (byte_table b f) (bytes_table bs g)))

pub piece_first : (piece : Bytes) (f : FileState) → (piece_on piece f).answer ≡ answer_by (first_of (piece_table piece f))
unfolding piece_on piece_table
piece_first piece f = asked_first f (file_bytes piece f) (bytes_table piece f) (bytes_first piece f)

-- ---- the end of a file

level_first : (l : Level) (s : State) → (end_at l s).answer ≡ answer_by (first_of (row (refusal_at R.Unfinished (next_line s)) (not (is_done l)) ∷ []))
unfolding first_of
level_first L.Done s = refl
level_first L.Doc s = refl
level_first L.Root s = refl
level_first L.Section s = refl
level_first L.Element s = refl
level_first L.Leaf s = refl
level_first L.Other s = refl

module _ (f : FileState) where
  abbrev end_rows : Where → List (ConditionRow RefusedAt)
  end_rows w = row (refusal_at R.NotMarkup (f.feeds + 1)) (is_within w) ∷ row (refusal_at R.Unfinished (next_line f.state)) (not (is_done f.state.reader.place.level)) ∷ []

  ends_first : (w : Where) → (ends_at w f).answer ≡ answer_by (first_of (end_rows w))
  unfolding first_of
  ends_first (between before) = level_first f.state.reader.place.level f.state
  ends_first (within s) = refl

  pub file_end_first : (file_end_on f).answer ≡ answer_by (first_of (file_end_table f))
  unfolding file_end_on file_end_table
  file_end_first = asked_first f (ends_at f.place f) (end_rows f.place) (ends_first f.place)
