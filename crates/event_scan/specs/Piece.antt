-- What a value begins with: a byte that stands for itself, or one of the escapes of document 01.
use Rattle.std.specs.Prelude.{ℕ, Bool, true, false, cond, [], ◌∷◌, eqb, None, Option, Some}
use Rattle.base.specs.Bytes.{Bytes}
use Rattle.base.specs.Chars.{backslash}
use Rattle.text.specs.Escape.{meaning, unescape}
use Rattle.event.specs.Event.{or_empty}
use Rattle.event_scan.specs.declared.Piece.{Piece}

-- whether something is there
unfoldable pub there : {A : Type 0} → Option A → Bool
there None = false
there (Some a) = true

-- a byte that so many bytes write
abbrev pub some_piece : ℕ → ℕ → Option Piece
some_piece b n = Some (record { byte = b; size = n })

-- the two bytes of an escape, by what the second stands for
abbrev pub lettered : Option ℕ → Option Piece
lettered None = None
lettered (Some b) = some_piece b 2

abbrev pub escape_in : Bytes → Option Piece
escape_in [] = None
escape_in (m ∷ bs) = lettered (meaning m)

unfoldable pub piece_in : Bytes → Option Piece
piece_in [] = None
piece_in (b ∷ bs) = cond (eqb b backslash) (escape_in bs) (some_piece b 1)

-- the text of a value, nothing where it has none
unfoldable pub value_text : Bytes → Bytes
value_text v = or_empty (unescape v)
