-- The calls of a file's reader: a piece of a file, and its end.
use Rattle.reader.specs.declared.RefusedAt.{RefusedAt}
use Rattle.std.specs.Prelude.{ℕ, ◌+◌, Bool, cond, eqb, leb, Err, None, Option, Some}
use Rattle.base.specs.Bytes.{Bytes, both, either}
use Rattle.refusal.specs.declared.Refusal.{Refusal}
use Rattle.refusal.specs.declared.Refusal.TheVariants as R
use Rattle.file_lexer.specs.Lexing.{Where, between, within}
use Rattle.reader.specs.State.{stops_by, state_sound, refusal_at}
use Rattle.reader.specs.Event.{end_at}
use Rattle.file_reader.specs.File.{FileState, FileResult, keeps_name, file_bytes}

-- ---- Sound, of a file's reader

-- between markups nothing is kept of one; within one its line feeds are some of those so far, and its line is within its room
abbrev pub place_sound : Where → FileState → Bool
place_sound (between before) f = both (eqb f.feeds 0) (eqb f.used 0)
place_sound (within s) f = both (leb f.feeds f.state.reader.lines) (leb f.used 16380)

-- the name of an open element is within its room, and where none is to be kept there is none
unfoldable pub file_sound : FileState → Bool
file_sound f =
    both (state_sound f.state) (both (place_sound f.place f) (both (leb f.named 16384) (either (keeps_name f.state.reader.place.level) (eqb f.named 0))))

-- ---- a piece

abbrev pub file_refused : FileState → Refusal → ℕ → FileResult
file_refused f r line = record { file = f; answer = Err (refusal_at r line) }

abbrev pub unless_file_stopped : Option RefusedAt → FileState → FileResult → FileResult
unless_file_stopped None f a = a
unless_file_stopped (Some stop) f a = cond (stops_by stop.refusal) (file_refused f stop.refusal stop.line) a

abbrev pub unless_file_unsound : FileState → FileResult → FileResult
unless_file_unsound f a = cond (file_sound f) a (file_refused f R.Unsound 0)

-- Whatever the piece holds: 22, or the stop mark; then its bytes, up to the first that is refused.
unfoldable pub piece_on : Bytes → FileState → FileResult
piece_on piece f = unless_file_unsound f (unless_file_stopped f.state.reader.stop f (file_bytes piece f))

-- ---- the end

-- "a file that ends between markups keeps 18": within one it is 25. It stops nothing and changes nothing.
abbrev pub ends_at : Where → FileState → FileResult
ends_at (between before) f = record { file = f; answer = (end_at f.state.reader.place.level f.state).answer }
ends_at (within s) f = file_refused f R.NotMarkup (f.feeds + 1)

unfoldable pub file_end_on : FileState → FileResult
file_end_on f = unless_file_unsound f (unless_file_stopped f.state.reader.stop f (ends_at f.place f))
