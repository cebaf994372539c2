-- The line of an event as it grows at the front of the lent bytes.
use Rattle.std.specs.Prelude.{ℕ}
use Rattle.base.specs.Bytes.{Bytes}
use Rattle.file_lexer.specs.Lexing.{line_put, line_used}

-- the lent bytes, and how many of them are kept of the line
pub record Line : Type 0 where
  pub bytes : Bytes
  pub used : ℕ

abbrev pub line_of : Bytes → ℕ → Line
line_of bytes used = record { bytes = bytes; used = used }

unfoldable pub line_grown : Bytes → ℕ → Bytes → Line
line_grown bytes used x = record { bytes = line_put bytes used x; used = line_used used x }
