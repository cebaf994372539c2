use mathlib.Core.Path.{sym, ap, ◌∙◌}
use Rattle.markup.specs.Automaton.{markup_step}
use Rattle.markup_steps.specs.Held.{markup_for, markup_moved}
use Rattle.file_lexer.specs.Held.{lexing_of}
use Rattle.file_lexer.proofs.Growths.{adds_bytes}
use Rattle.file_lexer.proofs.Moves.{char_goes_on}
use Rattle.file_lexer.proofs.byte.markup_char.Goals as goal

pub put_output-used-requires : goal.put_output-used-requires
put_output-used-requires c = rw c.markup_step-taken.ensures.output (adds_bytes c.args.place c.args.c c.requires)

pub returns-in-Continues : goal.returns-in-Continues
returns-in-Continues c =
    let a = c.args in
    let taken = c.markup_step-taken in
    let line = c.put_output-used in
    char_goes_on a.byte (markup_for a.place) (lexing_of a.lexer a.lines a.bytes.now) (markup_step (markup_for a.place) a.c) (markup_for c.in-Continues.next)
    (record { bytes = line.new.bytes; used = line.result }) c.counted.result
    (sym (ap markup_moved c.in-Continues.is) ∙ taken.ensures.moved)
    (rw taken.ensures.output at line.ensures)
    c.counted.ensures
