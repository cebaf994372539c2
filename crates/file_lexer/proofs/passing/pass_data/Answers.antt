use Rattle.file_lexer.specs.Plain.{plain_but, data_state}
use Rattle.file_lexer.proofs.PlainRuns.{skipped_over, data_passes}
use Rattle.file_lexer.proofs.passing.pass_data.Goals as goal

pub returns-clause-still : goal.returns-clause-still
returns-clause-still c =
    let a = c.args in
    let n = c.plain_length-taken in
    λ bytes. skipped_over data_state a.feeds a.lines (plain_but 63) data_passes bytes a.used c.used_past.result a.rest.now n.result n.ensures.in_bounds n.ensures.plain
    c.used_past.ensures.none c.used_past.ensures.some
