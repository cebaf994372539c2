-- Document 02, request 2: "Read the change file itself". A file's reader is a reader of events with more beside it: where in a markup it stands, the line that it is writing, and the name of an open element.
use Rattle.reader.specs.declared.RefusedAt.{RefusedAt}
use Rattle.std.specs.Prelude.{ℕ, ◌+◌, Bool, true, false, cond, [], ◌∷◌, ◌++◌, eqb, length, take, drop, Ok, Err, Result, None, Option, Some}
use Rattle.base.specs.Ascii.{ascii}
use Rattle.base.specs.Bytes.{Bytes, same}
use Rattle.base.specs.Chars.{horizontal_tab, line_feed}
use Rattle.little.specs.Little.{over}
use Rattle.refusal.specs.declared.Refusal.{Refusal}
use Rattle.refusal.specs.declared.Refusal.TheVariants as R
use Rattle.kind.specs.declared.Kind.{Kind}
use Rattle.kind.specs.declared.Kind.TheVariants as K
use Rattle.nesting.specs.declared.Action.{Action}
use Rattle.nesting.specs.declared.Action.TheVariants as A
use Rattle.nesting.specs.declared.Level.{Level}
use Rattle.nesting.specs.declared.Level.TheVariants as L
use Rattle.nesting.specs.declared.Place.{Place}
use Rattle.event.specs.Event.{starts, closes, others, start_word}
use Rattle.markup.specs.Markup.{Meaning, means_event, no_event}
use Rattle.file_lexer.specs.declared.Before.TheVariants as B
use Rattle.file_lexer.specs.Lexing.{Where, between, Lexing, Told, more, markup, not_markup, lex_byte}
use Rattle.reader.specs.State.{State, refusal_at}
use Rattle.reader.specs.Step.{stops}
use Rattle.reader.specs.Event.{EventResult, stepped, unless_unsound, event_on}

pub record FileState : Type 0 where
  pub state : State
  pub place : Where
  -- the line feeds before the markup
  pub feeds : ℕ
  -- the lent bytes: room for a line, and behind it for the name of an open element
  pub bytes : Bytes
  -- how many bytes are kept of the line, and how many the name has
  pub used : ℕ
  pub named : ℕ

pub record FileResult : Type 0 where
  pub file : FileState
  pub answer : Result Unit RefusedAt

-- ---- the count of line feeds: it stands where a reader of lines has its count of lines

abbrev pub with_lines : ℕ → State → State
with_lines n s =
    record { overlay = s.overlay; reader = record { place = s.reader.place; pending = s.reader.pending; lines = n; stop = s.reader.stop }; parts = s.parts }

-- "LINE is then the line of the markup's first byte": the state that the markup's event meets
abbrev pub at_markup : FileState → State
at_markup f = with_lines f.feeds f.state

-- ---- the lexer of a file's reader

abbrev pub lexing_in : FileState → Lexing
lexing_in f = record { place = f.place; feeds = f.feeds; lines = f.state.reader.lines; bytes = f.bytes; used = f.used }

abbrev pub with_lexing : FileState → Lexing → FileState
with_lexing f l = record { state = with_lines l.lines f.state; place = l.place; feeds = l.feeds; bytes = l.bytes; used = l.used; named = f.named }

-- ---- the name of the element that is open

-- a close goes from these levels to others by the level alone, so the name is kept
unfoldable pub keeps_name : Level → Bool
keeps_name L.Doc = false
keeps_name L.Root = false
keeps_name L.Section = false
keeps_name L.Element = false
keeps_name L.Leaf = true
keeps_name L.Other = true
keeps_name L.Done = false

abbrev pub action_bytes : Action → Bytes
action_bytes A.Create = ascii "create"
action_bytes A.Modify = ascii "modify"
action_bytes A.Delete = ascii "delete"

abbrev pub kind_bytes : Kind → Bytes
kind_bytes K.Node = ascii "node"
kind_bytes K.Way = ascii "way"
kind_bytes K.Relation = ascii "relation"

abbrev pub open_at : Level → Place → Bytes → Option Bytes
open_at L.Doc p kept = None
open_at L.Root p kept = Some (ascii "osmChange")
open_at L.Section p kept = Some (action_bytes p.section)
open_at L.Element p kept = Some (kind_bytes p.kind)
open_at L.Leaf p kept = Some kept
open_at L.Other p kept = Some kept
open_at L.Done p kept = None

unfoldable pub open_name : FileState → Option Bytes
open_name f = open_at f.state.reader.place.level f.state.reader.place (take f.named (drop 16387 f.bytes))

-- "an end tag with none open or whose name is not the open one's"
abbrev pub is_open : Bytes → Option Bytes → Bool
is_open n None = false
is_open n (Some m) = same n m

-- ---- a markup's line

-- what is kept of it: of a start tag all behind its first word, of an end tag its name
abbrev pub kept_line : FileState → Bytes
kept_line f = take f.used (drop 6 f.bytes)

-- where the line begins: `open` is a byte shorter
abbrev pub line_start : Bool → ℕ
line_start false = 1
line_start true = 0

-- its word before it and a line feed behind it, in the lent bytes
abbrev pub line_written : Bool → FileState → Bytes
line_written empty f = over (over f.bytes (line_start empty) (start_word empty ++ (horizontal_tab ∷ []))) (6 + f.used) (line_feed ∷ [])

abbrev pub tag_line : Bool → FileState → Bytes
tag_line empty f = drop (line_start empty) (take (7 + f.used) (line_written empty f))

-- up to the first tab
unfoldable pub before_tab : Bytes → Bytes
before_tab [] = []
before_tab (b ∷ bs) = cond (eqb b horizontal_tab) [] (b ∷ before_tab bs)

-- ---- what a markup does

-- "25 markup not well formed by itself": XML 1.0, 3.1, Unique Att Spec; an event's line that a markup gives is 4 for nothing else
abbrev pub twice_stop : EventResult → RefusedAt → Refusal → EventResult
twice_stop r a R.NotEventLine =
    record {
      state = record {
        overlay = r.state.overlay;
        reader = record { place = r.state.reader.place; pending = r.state.reader.pending; lines = r.state.reader.lines; stop = Some (refusal_at R.NotMarkup a.line) };
        parts = r.state.parts;
      };
      answer = Err (refusal_at R.NotMarkup a.line);
    }
twice_stop r a x = r

abbrev pub unless_twice : EventResult → Result Unit RefusedAt → EventResult
unless_twice r (Ok tt) = r
unless_twice r (Err a) = twice_stop r a a.refusal

-- an event of a markup
abbrev pub markup_event : Bytes → State → EventResult
markup_event line s = unless_twice (event_on line s) (event_on line s).answer

-- 25 and 26 stop the reader, as a refused event does
abbrev pub markup_refused : Refusal → State → EventResult
markup_refused r s = unless_unsound s (stepped s (stops r))

-- behind a markup: the line feeds so far are the count again
abbrev pub behind_markup : FileState → EventResult → Bytes → ℕ → FileResult
behind_markup f r bytes named =
    record {
      file = record { state = with_lines f.state.reader.lines r.state; place = between B.Text; feeds = 0; bytes = bytes; used = 0; named = named };
      answer = r.answer;
    }

-- an element that begins: where its name is to be kept, it is
abbrev pub named_behind : FileState → Bytes → EventResult → Bool → FileResult
named_behind f bytes r false = behind_markup f r bytes 0
named_behind f bytes r true = behind_markup f r (over bytes 16387 (before_tab (kept_line f))) (length (before_tab (kept_line f)))

abbrev pub started : FileState → Bytes → EventResult → Result Unit RefusedAt → FileResult
started f bytes r (Ok tt) = named_behind f bytes r (keeps_name r.state.reader.place.level)
started f bytes r (Err a) = behind_markup f r bytes f.named

unfoldable pub start_tag_ends : Bool → FileState → FileResult
start_tag_ends empty f =
    started f (line_written empty f) (markup_event (tag_line empty f) (at_markup f)) (markup_event (tag_line empty f) (at_markup f)).answer

abbrev pub closed_behind : FileState → EventResult → Result Unit RefusedAt → FileResult
closed_behind f r (Ok tt) = behind_markup f r f.bytes 0
closed_behind f r (Err a) = behind_markup f r f.bytes f.named

abbrev pub close_line : Bytes
close_line = ascii "close" ++ (line_feed ∷ [])

unfoldable pub end_tag_ends : FileState → FileResult
end_tag_ends f =
    cond (is_open (kept_line f) (open_name f)) (closed_behind f (event_on close_line (at_markup f)) (event_on close_line (at_markup f)).answer)
    (behind_markup f (markup_refused R.UnmatchedEndTag (at_markup f)) f.bytes f.named)

-- "comments and processing instructions skipped"
abbrev pub skipped : FileState → FileResult
skipped f = behind_markup f (record { state = f.state; answer = Ok tt }) f.bytes f.named

unfoldable pub markup_ended : Meaning → FileState → FileResult
markup_ended (means_event (starts empty n attrs) m) f = start_tag_ends empty f
markup_ended (means_event closes m) f = end_tag_ends f
markup_ended (means_event others m) f = skipped f
markup_ended no_event f = skipped f

-- "25 markup not well formed by itself or unsupported, judged as it is reached"
unfoldable pub markup_malformed : FileState → FileResult
markup_malformed f = behind_markup f (markup_refused R.NotMarkup (at_markup f)) f.bytes f.named

-- ---- bytes

abbrev pub told_on : Told → FileState → FileResult
told_on more f = record { file = f; answer = Ok tt }
told_on (markup m) f = markup_ended m f
told_on not_markup f = markup_malformed f

unfoldable pub file_byte : ℕ → FileState → FileResult
file_byte b f = told_on (lex_byte (lexing_in f) b).told (with_lexing f (lex_byte (lexing_in f) b).lexing)

abbrev pub bytes_onward : (FileState → FileResult) → Result Unit RefusedAt → FileState → FileResult
bytes_onward next (Ok tt) f = next f
bytes_onward next (Err a) f = record { file = f; answer = Err a }

-- bytes of a file, up to the first that is refused
unfoldable pub file_bytes : Bytes → FileState → FileResult
file_bytes [] f = record { file = f; answer = Ok tt }
file_bytes (b ∷ bs) f = bytes_onward (file_bytes bs) (file_byte b f).answer (file_byte b f).file
