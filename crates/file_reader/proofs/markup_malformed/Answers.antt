-- 25, at the line of its first byte.
use Rattle.reader.specs.Lent.{state_held}
use Rattle.file_reader.specs.Held.{file_held}
use Rattle.file_reader.proofs.Given.{given_lines}
use Rattle.file_reader.proofs.Steps.{malformed_by}
use Rattle.file_reader.proofs.markup_malformed.Goals as goal

pub returns-clause-value : goal.returns-clause-value
returns-clause-value c =
    let f = file_held c.args.state.now c.args.file.now in
    let r = c.refuse-answer in
    λ g. malformed_by f (record { state = state_held r.new.state; answer = r.result }) (r.ensures.value (given_lines f.feeds g))
