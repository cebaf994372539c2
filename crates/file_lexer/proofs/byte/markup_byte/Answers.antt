use mathlib.Core.Path.{sym, ap, ◌∙◌}
use Rattle.xml_chars.specs.Chars.{bytes_in, char_moved}
use Rattle.xml_chars.proofs.Steps.{completed_char}
use Rattle.file_lexer.proofs.byte.markup_byte.Goals as goal

pub markup_char-requires : goal.markup_char-requires
markup_char-requires c =
    let whole = completed_char (bytes_in c.args.so_far) c.args.byte c.in-Completes.c (sym c.char_step.ensures ∙ ap char_moved c.in-Completes.is) in
    whole.legal
