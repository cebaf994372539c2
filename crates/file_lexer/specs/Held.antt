-- A lexer as it is held, in the words of its definition.
use Rattle.std.specs.Prelude.{ℕ, drop}
use Rattle.base.specs.Bytes.{Bytes}
use Rattle.markup_steps.specs.Held.{markup_for, ended_meaning}
use Rattle.xml_chars.specs.Chars.{bytes_in}
use Rattle.file_lexer.specs.Lexing as S
use Rattle.file_lexer.specs.Lexing.{Where, between, within, Lexing, LexedRun, lex_run}
use Rattle.file_lexer.specs.declared.FilePlace.{FilePlace}
use Rattle.file_lexer.specs.declared.FilePlace.TheVariants as P
use Rattle.file_lexer.specs.declared.Told.{Told}
use Rattle.file_lexer.specs.declared.Told.TheVariants as T
use Rattle.file_lexer.specs.declared.Lexer.{Lexer}
use Rattle.file_lexer.specs.declared.Lexed.{Lexed}
use Rattle.file_lexer.specs.declared.byte.LexedByte.{LexedByte}
use Rattle.file_lexer.specs.declared.passing.Passed.{Passed}

abbrev pub where_of : FilePlace → Where
where_of (P.Text before) = between before
where_of (P.Markup place chars) = within (record { markup = markup_for place; bytes = bytes_in chars })

abbrev pub lexing_of : Lexer → ℕ → Bytes → Lexing
lexing_of l lines bytes = record { place = where_of l.place; feeds = l.feeds; lines = lines; bytes = bytes; used = l.used }

abbrev pub told_of : Told → S.Told
told_of T.More = S.more
told_of (T.Markup ended) = S.markup (ended_meaning ended)
told_of T.NotMarkup = S.not_markup

abbrev pub lexed_of : Lexed → Bytes → Bytes → LexedRun
lexed_of r bytes run = record { lexing = lexing_of r.lexer r.lines bytes; told = told_of r.told; rest = drop r.taken run }

abbrev pub lexed_byte_of : LexedByte → Bytes → S.LexedByte
lexed_byte_of r bytes = record { lexing = lexing_of r.lexer r.lines bytes; told = told_of r.told }

-- a run, from the lexer behind the plain bytes that come first
abbrev pub passed_run : Passed → Bytes → Bytes → LexedRun
passed_run r bytes run = lex_run (lexing_of r.lexer r.lines bytes) (drop r.taken run)
