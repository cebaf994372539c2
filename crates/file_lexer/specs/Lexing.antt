-- Document 02, request 2: "a reader of XML 1.0 bytes that yields our events", byte by byte. Between markups stands text, "up to the next `<` ignored unchecked".
use Rattle.std.specs.Prelude.{ℕ, ◌+◌, ◌-◌, Bool, true, false, cond, [], ◌∷◌, eqb, ltb, min, length, take}
use Rattle.base.specs.Bytes.{Bytes, both}
use Rattle.base.specs.Chars.{line_feed}
use Rattle.little.specs.Little.{over}
use Rattle.markup.specs.Signs.{less_than_sign}
use Rattle.markup.specs.Markup.{Meaning}
use Rattle.markup.specs.Automaton.{Moved, continues, completes, malformed, MarkupState, behind_less_than_sign, markup_step}
use Rattle.markup.specs.MarkupBytes.{BytesState, at_char, char_step}
use Rattle.markup_tags.specs.Meanings.{meaning_kept}
use Rattle.markup_steps.specs.Held.{markup_kept, markup_grown}
use Rattle.file_lexer.specs.declared.Before.{Before}
use Rattle.file_lexer.specs.declared.Before.TheVariants as B

-- ---- between markups

-- Reading of production 22: the declaration stands at the beginning of a file, or behind the mark of byte order EF BB BF with which it begins
unfoldable pub before_step : Before → ℕ → Before
before_step B.Nothing b = cond (eqb b 0xef) B.MarkFirst B.Text
before_step B.MarkFirst b = cond (eqb b 0xbb) B.MarkSecond B.Text
before_step B.MarkSecond b = cond (eqb b 0xbf) B.Mark B.Text
before_step B.Mark b = B.Text
before_step B.Text b = B.Text

unfoldable pub is_first : Before → Bool
is_first B.Nothing = true
is_first B.MarkFirst = false
is_first B.MarkSecond = false
is_first B.Mark = true
is_first B.Text = false

-- ---- a lexer

-- between markups, or within one
pub data Where : Type 0 where
  between : Before → Where
  within : BytesState → Where

-- where it stands; the line feeds before the markup, and so far; the lent bytes, at whose front the line of its event is written, and how many of them are kept of it
pub record Lexing : Type 0 where
  pub place : Where
  pub feeds : ℕ
  pub lines : ℕ
  pub bytes : Bytes
  pub used : ℕ

-- a line feed more, up to the largest number
unfoldable pub counted : ℕ → ℕ → ℕ
counted b lines = cond (both (eqb b line_feed) (ltb lines 18446744073709551615)) (lines + 1) lines

-- what a byte came to: nothing yet, the end of a markup with its meaning, or no legal markup is written so
pub data Told : Type 0 where
  more : Told
  markup : Meaning → Told
  not_markup : Told

pub record LexedByte : Type 0 where
  pub lexing : Lexing
  pub told : Told

-- text
abbrev pub text_taken : Before → ℕ → Lexing → Lexing
text_taken before b l = record { place = between (before_step before b); feeds = l.feeds; lines = counted b l.lines; bytes = l.bytes; used = l.used }

-- "LINE is then the line of the markup's first byte"
abbrev pub markup_begins : Before → Lexing → Lexing
markup_begins before l = record { place = within (at_char (behind_less_than_sign (is_first before))); feeds = l.lines; lines = l.lines; bytes = l.bytes; used = 0 }

-- a character of several bytes goes on
abbrev pub char_begins : MarkupState → Bytes → Lexing → Lexing
char_begins q s l = record { place = within (record { markup = q; bytes = s }); feeds = l.feeds; lines = l.lines; bytes = l.bytes; used = l.used }

-- bytes more of the line, behind room for its first word, `open` or `empty`; 16,380 are enough to tell that it is too long
abbrev pub line_put : Bytes → ℕ → Bytes → Bytes
line_put bytes used x = over bytes (6 + used) (take (16380 - used) x)

abbrev pub line_used : ℕ → Bytes → ℕ
line_used used x = min 16380 (used + length x)

-- the markup goes on
abbrev pub markup_goes_on : ℕ → MarkupState → Bytes → Lexing → Lexing
markup_goes_on b q x l =
    record { place = within (at_char (markup_kept q)); feeds = l.feeds; lines = counted b l.lines; bytes = line_put l.bytes l.used x; used = line_used l.used x }

-- the markup is at its end
abbrev pub markup_ends : Lexing → Lexing
markup_ends l = record { place = between B.Text; feeds = l.feeds; lines = l.lines; bytes = l.bytes; used = l.used }

-- a character of a markup, with its last byte
abbrev pub char_taken : ℕ → MarkupState → Lexing → Moved MarkupState Meaning → LexedByte
char_taken b p l (continues q) = record { lexing = markup_goes_on b q (markup_grown p (continues q)) l; told = more }
char_taken b p l (completes m) = record { lexing = markup_ends l; told = markup (meaning_kept m) }
char_taken b p l malformed = record { lexing = l; told = not_markup }

-- a byte of a markup
abbrev pub byte_taken : ℕ → MarkupState → Lexing → Moved Bytes ℕ → LexedByte
byte_taken b p l (continues s) = record { lexing = char_begins p s l; told = more }
byte_taken b p l (completes c) = char_taken b p l (markup_step p c)
byte_taken b p l malformed = record { lexing = l; told = not_markup }

abbrev pub lex_at : Where → ℕ → Lexing → LexedByte
lex_at (between before) b l = record { lexing = cond (eqb b less_than_sign) (markup_begins before l) (text_taken before b l); told = more }
lex_at (within s) b l = byte_taken b s.markup l (char_step s.bytes b)

unfoldable pub lex_byte : Lexing → ℕ → LexedByte
lex_byte l b = lex_at l.place b l

-- ---- a run

-- the lexer after it, or after the first of its markups that ended, and what is left; a byte with which no legal markup goes on is not taken
pub record LexedRun : Type 0 where
  pub lexing : Lexing
  pub told : Told
  pub rest : Bytes

abbrev pub lexed_onward : (Lexing → LexedRun) → ℕ → Bytes → LexedByte → LexedRun
lexed_onward next b bs r = lexed_told next b bs r.lexing r.told
  where
    lexed_told : (Lexing → LexedRun) → ℕ → Bytes → Lexing → Told → LexedRun
    lexed_told next b bs l more = next l
    lexed_told next b bs l (markup m) = record { lexing = l; told = markup m; rest = bs }
    lexed_told next b bs l not_markup = record { lexing = l; told = not_markup; rest = b ∷ bs }

unfoldable pub lex_run : Lexing → Bytes → LexedRun
lex_run l [] = record { lexing = l; told = more; rest = [] }
lex_run l (b ∷ bs) = lexed_onward (λ k. lex_run k bs) b bs (lex_byte l b)
