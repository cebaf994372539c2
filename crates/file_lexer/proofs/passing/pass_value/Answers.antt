use mathlib.Core.Path.{◌≡◌}
use mathlib.Core.Bool.{true}
use lib.ListN.{take}
use Rattle.base.specs.Bytes.{all}
use Rattle.markup.specs.Markup.{mark_char}
use Rattle.markup_tags.specs.StartTags.{mark_for}
use Rattle.file_lexer.specs.Line.{line_of}
use Rattle.file_lexer.specs.Plain.{plain_of_value, value_state}
use Rattle.file_lexer.proofs.PlainRuns.{copied_over, value_passes}
use Rattle.file_lexer.proofs.passing.pass_value.Goals as goal

pub returns-clause-still : goal.returns-clause-still
returns-clause-still c =
    let a = c.args in
    let q = mark_for a.mark in
    let n = c.value_length-taken in
    let put = c.put_first-used in
    let plain : all (plain_of_value (mark_char q)) (take n.result a.rest.now) ≡ true = rw c.quote_of.ensures at n.ensures.plain in
    copied_over (value_state q) a.feeds a.lines (plain_of_value (mark_char q)) (value_passes q) (line_of a.bytes.now a.used) (line_of put.new.bytes put.result) a.rest.now n.result
    n.ensures.in_bounds plain put.ensures.none put.ensures.some
