use mathlib.Core.Path.{sym, ap, ◌∙◌}
use Rattle.file_lexer.specs.Lexing.{lex_at, lex_byte}
use Rattle.file_lexer.specs.Held.{where_of, lexing_of}
use Rattle.file_lexer.proofs.byte.lex_byte.Goals as goal

pub returns-in-Text : goal.returns-in-Text
unfolding lex_byte
returns-in-Text c =
    let a = c.args in
    c.text_byte.ensures a.bytes.now ∙ ap (λ w. lex_at w a.byte (lexing_of a.lexer a.lines a.bytes.now)) (sym (ap where_of c.in-Text.is))

pub returns-in-Markup : goal.returns-in-Markup
unfolding lex_byte
returns-in-Markup c =
    let a = c.args in
    c.markup_byte.ensures ∙ ap (λ w. lex_at w a.byte (lexing_of a.lexer a.lines a.bytes.now)) (sym (ap where_of c.in-Markup.is))
