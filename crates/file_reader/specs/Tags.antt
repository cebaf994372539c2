-- The line of a tag and the name of an element in the lent bytes, as each step of the code has them.
use Rattle.reader.specs.declared.RefusedAt.{RefusedAt}
use Rattle.std.specs.Prelude.{ℕ, ◌+◌, Bool, true, false, cond, eqb, leb, [], ◌∷◌, ◌++◌, length, take, drop, Ok, Err, Result, None, Option, Some}
use Rattle.base.specs.Bytes.{Bytes, both, either}
use Rattle.base.specs.Chars.{horizontal_tab, line_feed}
use Rattle.little.specs.Little.{over}
use Rattle.refusal.specs.declared.Refusal.{Refusal}
use Rattle.refusal.specs.declared.Refusal.TheVariants as R
use Rattle.nesting.specs.declared.Level.{Level}
use Rattle.event.specs.Event.{start_word}
use Rattle.reader.specs.State.{State}
use Rattle.reader.specs.Event.{EventResult, event_on}
use Rattle.file_reader.specs.File.{keeps_name, line_start, before_tab, close_line, markup_refused}

-- a line's word before what is kept of it, and a line feed behind it
abbrev pub written_in : Bool → ℕ → Bytes → Bytes
written_in empty used bytes = over (over bytes (line_start empty) (start_word empty ++ (horizontal_tab ∷ []))) (6 + used) (line_feed ∷ [])

-- the line
abbrev pub line_in : Bool → ℕ → Bytes → Bytes
line_in empty used bytes = drop (line_start empty) (take (7 + used) bytes)

-- the name that it begins with
abbrev pub name_in : ℕ → Bytes → Bytes
name_in used bytes = before_tab (take used (drop 6 bytes))

-- the name is kept, or none
abbrev pub named_room : Bool → ℕ → Bytes → Bytes
named_room false used bytes = bytes
named_room true used bytes = over bytes 16387 (name_in used bytes)

abbrev pub named_length : Bool → ℕ → Bytes → ℕ
named_length false used bytes = 0
named_length true used bytes = length (name_in used bytes)

-- behind a start tag: after a refusal all stays
abbrev pub room_behind : Result Unit RefusedAt → Level → ℕ → Bytes → Bytes
room_behind (Ok tt) l used bytes = named_room (keeps_name l) used bytes
room_behind (Err a) l used bytes = bytes

abbrev pub named_behind_tag : Result Unit RefusedAt → Level → ℕ → ℕ → Bytes → ℕ
named_behind_tag (Ok tt) l named used bytes = named_length (keeps_name l) used bytes
named_behind_tag (Err a) l named used bytes = named

-- behind an end tag: none is kept where it was accepted
abbrev pub named_behind_close : Result Unit RefusedAt → ℕ → ℕ
named_behind_close (Ok tt) named = 0
named_behind_close (Err a) named = named

-- ---- an event of a markup

-- the line of a refusal that says that an event's line is none
abbrev pub twice_of : Refusal → ℕ → Option ℕ
twice_of R.NotEventLine line = Some line
twice_of x line = None

unfoldable pub twice_at : Result Unit RefusedAt → Option ℕ
twice_at (Ok tt) = None
twice_at (Err a) = twice_of a.refusal a.line

-- an end tag: it closes the open element, or is refused
abbrev pub close_event : Bool → State → EventResult
close_event matched s = cond matched (event_on close_line s) (markup_refused R.UnmatchedEndTag s)

-- ---- soundness

abbrev pub name_sound : Level → ℕ → Bool
name_sound l named = both (leb named 16384) (either (keeps_name l) (eqb named 0))
