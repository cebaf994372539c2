use Rattle.file_lexer.specs.Line.{line_of}
use Rattle.file_lexer.specs.Plain.{plain_of_name, end_name_state}
use Rattle.file_lexer.proofs.PlainRuns.{copied_over, end_name_passes}
use Rattle.file_lexer.proofs.passing.pass_end_name.Goals as goal

pub returns-clause-still : goal.returns-clause-still
returns-clause-still c =
    let a = c.args in
    let n = c.name_length-taken in
    let put = c.put_first-used in
    copied_over end_name_state a.feeds a.lines plain_of_name end_name_passes (line_of a.bytes.now a.used) (line_of put.new.bytes put.result)
    a.rest.now n.result n.ensures.in_bounds n.ensures.plain put.ensures.none put.ensures.some
