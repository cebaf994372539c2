use Rattle.file_lexer.proofs.PlainRuns.{text_passes}
use Rattle.file_lexer.proofs.passing.pass_text.Goals as goal

pub returns-clause-still : goal.returns-clause-still
returns-clause-still c =
    let a = c.args in
    let n = c.text_length-taken in
    λ bytes. rw c.counted_on.ensures (text_passes a.feeds a.lines (record { bytes = bytes; used = a.used }) a.rest.now n.result n.ensures.in_bounds n.ensures.text)
