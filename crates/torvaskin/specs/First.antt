-- The ordered tables at the C boundary of a reader, whose words come first; and what the listing answers by its table (proofs/ReaderFirst, proofs/FileFirst, proofs/ListingFirst).
use Rattle.std.specs.Prelude.{List, ◌∷◌, not, Err, None, Ok, Option, Result, Some, ℕ}
use Rattle.base.specs.Bytes.{Bytes}
use Rattle.refusal.specs.First.{ConditionRow, row}
use Rattle.refusal.specs.declared.Refusal.{Refusal}
use Rattle.refusal.specs.declared.Refusal.TheVariants as R
use Rattle.overlay.specs.Overlay.{Overlay}
use Rattle.reader.specs.State.{State, refusal_at}
use Rattle.reader.specs.declared.RefusedAt.{RefusedAt}
use Rattle.c_reader.specs.Words.{reader_in, is_reader}
use Rattle.c_file.specs.Words.{file_in, is_file}
use Rattle.file_reader.specs.File.{FileState}
use Rattle.torvaskin.specs.Files.{FileLent, file_lent}

-- words that are no reader's: 22, which names no line
abbrev pub no_reader_row : List ℕ → ConditionRow RefusedAt
no_reader_row words = row (refusal_at R.Unsound 0) (not (is_reader words))

-- an overlay, the reader in its words, and its parts
abbrev pub state_in : Overlay → List ℕ → Bytes → State
state_in o words parts = record { overlay = o; reader = reader_in words; parts = parts }

-- the words, then the rows of an event, a run or an end
abbrev pub reader_call_table : (State → List (ConditionRow RefusedAt)) → Overlay → List ℕ → Bytes → List (ConditionRow RefusedAt)
reader_call_table rows o words parts = no_reader_row words ∷ rows (state_in o words parts)

-- words that are no file reader's: the same
abbrev pub no_file_row : List ℕ → ConditionRow RefusedAt
no_file_row words = row (refusal_at R.Unsound 0) (not (is_file words))

-- an overlay, and the file's reader in the words that are lent beside it
abbrev pub file_state_in : Overlay → FileLent → FileState
file_state_in o x = file_lent o (reader_in x.words) (file_in x.file_words) x

-- both words, then the rows of a piece or of the end of a file
abbrev pub file_call_table : (FileState → List (ConditionRow RefusedAt)) → Overlay → FileLent → List (ConditionRow RefusedAt)
file_call_table rows o x = no_reader_row x.words ∷ no_file_row x.file_words ∷ rows (file_state_in o x)

-- a refusal, if there is one, else the length
abbrev pub listed_by : ℕ → Option Refusal → Result ℕ Refusal
listed_by n None = Ok n
listed_by n (Some r) = Err r
