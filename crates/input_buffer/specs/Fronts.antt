-- What the code of a piece needs, apart from what a piece comes to (Feed): what is left at the front of a buffer.
use Rattle.reader.specs.declared.RefusedAt.{RefusedAt}
use Rattle.std.specs.Prelude.{ℕ, Ok, Err, Result, length}
use Rattle.base.specs.Bytes.{Bytes}
use Rattle.input_lines.specs.Place.{Front, keep_rest}

-- after an answer, the bytes from a place on at the front, or nothing
abbrev pub kept_front : Result Unit RefusedAt → Bytes → ℕ → Front
kept_front (Ok tt) buffer from = keep_rest buffer from (length buffer)
kept_front (Err a) buffer from = record { buffer = buffer; kept = 0 }
