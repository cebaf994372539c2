-- Document 02, request 2, "Refused", for a piece of a file and for its end: one ordered list of conditions each. "25 markup not well formed by itself or unsupported, judged as it
-- is reached, before 2 .., while a file that ends between markups keeps 18; 26 an end tag with none open or whose name is not the open one's, in the place of 25".
use Rattle.reader.specs.declared.RefusedAt.{RefusedAt}
use Rattle.std.specs.Prelude.{ℕ, ◌+◌, Bool, true, false, not, List, [], ◌∷◌, ◌++◌, map}
use Rattle.base.specs.Bytes.{Bytes}
use Rattle.refusal.specs.First.{ConditionRow, row}
use Rattle.refusal.specs.declared.Refusal.{Refusal}
use Rattle.refusal.specs.declared.Refusal.TheVariants as R
use Rattle.event.specs.Event.{starts, closes, others}
use Rattle.markup.specs.Markup.{Meaning, means_event, no_event}
use Rattle.file_lexer.specs.Lexing.{Where, between, within, Told, more, markup, not_markup, lex_byte}
use Rattle.reader.specs.State.{State, refusal_at, next_line}
use Rattle.reader.specs.Table.{unsound_state_row, stop_rows, event_table, is_done}
use Rattle.file_reader.specs.File.{FileState, at_markup, lexing_in, with_lexing, is_open, open_name, kept_line, tag_line, close_line, file_byte}
use Rattle.file_reader.specs.Calls.{file_sound}

-- Document 01: "each call .., first: 22 unsound storage"; then a stopped reader: "later events and the end repeat that number, line and HELD"
abbrev pub first_rows : FileState → List (ConditionRow RefusedAt)
first_rows f = row (refusal_at R.Unsound 0) (not (file_sound f)) ∷ stop_rows f.state.reader.stop

-- ---- a markup: "LINE is then the line of the markup's first byte", the line feeds before it plus one

-- 25 or 26; before it 22, where the line feeds before the markup are the most that a reader counts
abbrev pub markup_rows : Refusal → Bool → FileState → List (ConditionRow RefusedAt)
markup_rows r holds f = unsound_state_row (at_markup f) ∷ row (refusal_at r (f.feeds + 1)) holds ∷ []

-- 4 of a tag's line is an attribute that stands there twice (XML 1.0, 3.1, Unique Att Spec): "25 markup not well formed by itself"
abbrev pub twice_given : Refusal → Refusal
twice_given R.NotEventLine = R.NotMarkup
twice_given r = r

abbrev pub twice_as_markup : ConditionRow RefusedAt → ConditionRow RefusedAt
twice_as_markup r = row (refusal_at (twice_given r.gives.refusal) r.gives.line) r.holds

-- a start tag: "2 now measures the event's decoded line, written as in document 01", and what comes behind 2 goes by that line too
abbrev pub tag_table : Bytes → State → List (ConditionRow RefusedAt)
tag_table line s = map twice_as_markup (event_table line s)

-- a markup at its end. An end tag: 26 "in the place of 25", then its event. "Comments and processing instructions skipped"
unfoldable pub ended_table : Meaning → FileState → List (ConditionRow RefusedAt)
ended_table (means_event (starts empty n attrs) m) f = tag_table (tag_line empty f) (at_markup f)
ended_table (means_event closes m) f =
    markup_rows R.UnmatchedEndTag (not (is_open (kept_line f) (open_name f))) f ++ event_table close_line (at_markup f)
ended_table (means_event others m) f = []
ended_table no_event f = []

-- what a byte told of it: 25 "judged as it is reached"
unfoldable pub markup_table : Told → FileState → List (ConditionRow RefusedAt)
markup_table more f = []
markup_table (markup m) f = ended_table m f
markup_table not_markup f = markup_rows R.NotMarkup true f

-- ---- a piece

abbrev pub byte_table : ℕ → FileState → List (ConditionRow RefusedAt)
byte_table b f = markup_table (lex_byte (lexing_in f) b).told (with_lexing f (lex_byte (lexing_in f) b).lexing)

-- byte by byte, each after those before it
unfoldable pub bytes_table : Bytes → FileState → List (ConditionRow RefusedAt)
bytes_table [] f = []
bytes_table (b ∷ bs) f = byte_table b f ++ bytes_table bs (file_byte b f).file

unfoldable pub piece_table : Bytes → FileState → List (ConditionRow RefusedAt)
piece_table piece f = first_rows f ++ bytes_table piece f

-- ---- the end of a file

abbrev pub is_within : Where → Bool
is_within (between before) = false
is_within (within s) = true

-- within a markup 25, at the line of its first byte; "a file that ends between markups keeps 18", with "for 18 .. the line feeds plus one"
unfoldable pub file_end_table : FileState → List (ConditionRow RefusedAt)
file_end_table f =
    first_rows f
    ++ (row (refusal_at R.NotMarkup (f.feeds + 1)) (is_within f.place)
    ∷ row (refusal_at R.Unfinished (next_line f.state)) (not (is_done f.state.reader.place.level)) ∷ [])
