-- The automaton over bytes: below the one over characters, a character is read from its UTF-8, byte by byte.
use Rattle.std.specs.Prelude.{ℕ, Bool, false, cond, [], ◌∷◌, ◌++◌, eqb}
use Rattle.base.specs.Bytes.{Bytes, both, same}
use Rattle.text.specs.Char.{from_to, xml_char, utf8}
use Rattle.text.specs.Check.{decoded}
use Rattle.markup.specs.Markup.{Meaning}
use Rattle.markup.specs.Automaton.{Moved, continues, completes, malformed, Lexed, lexed, wrapped_step, MarkupState, before_markup, markup_step}

-- The Unicode standard, table 3-7: the second byte of a character by its first
unfoldable pub second_byte : ℕ → ℕ → Bool
second_byte a b = from_to (cond (eqb a 0xe0) 0xa0 (cond (eqb a 0xf0) 0x90 0x80)) (cond (eqb a 0xed) 0x9f (cond (eqb a 0xf4) 0x8f 0xbf)) b

-- bytes with which a character begins, and does not end
unfoldable pub begins_char : Bytes → Bool
begins_char [] = false
begins_char (a ∷ []) = from_to 0xc2 0xf4 a
begins_char (a ∷ b ∷ []) = both (from_to 0xe0 0xf4 a) (second_byte a b)
begins_char (a ∷ b ∷ c ∷ []) = both (from_to 0xf0 0xf4 a) (both (second_byte a b) (from_to 0x80 0xbf c))
begins_char (a ∷ b ∷ c ∷ d ∷ s) = false

-- the bytes of a legal character
unfoldable pub is_char : Bytes → Bool
is_char s = both (xml_char (decoded s)) (same (utf8 (decoded s)) s)

-- the state is the bytes so far of a character
abbrev pub char_moved : Bytes → Moved Bytes ℕ
char_moved s = cond (begins_char s) (continues s) (cond (is_char s) (completes (decoded s)) malformed)

unfoldable pub char_step : Bytes → ℕ → Moved Bytes ℕ
char_step s b = char_moved (s ++ (b ∷ []))

-- the state of a markup, and the bytes so far of its next character
pub record BytesState : Type 0 where
  pub markup : MarkupState
  pub bytes : Bytes

abbrev pub at_char : MarkupState → BytesState
at_char q = record { markup = q; bytes = [] }

abbrev pub bytes_moved : MarkupState → Moved Bytes ℕ → Moved BytesState Meaning
bytes_moved q (continues s) = continues (record { markup = q; bytes = s })
bytes_moved q (completes c) = wrapped_step at_char (markup_step q c)
bytes_moved q malformed = malformed

unfoldable pub bytes_step : BytesState → ℕ → Moved BytesState Meaning
bytes_step s b = bytes_moved s.markup (char_step s.bytes b)

-- the markup that a run of bytes begins with
abbrev pub markup_of_bytes : Bool → Bytes → Lexed BytesState Meaning
markup_of_bytes first s = lexed bytes_step (at_char (before_markup first)) s
