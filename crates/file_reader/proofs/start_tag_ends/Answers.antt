-- The line of the tag is an event, and the name behind it is kept.
use mathlib.Core.Path.{◌≡◌}
use borrow.Author.Rules.{rules}
use lib.ListN.{length}
use Rattle.reader.specs.Lent.{state_held}
use Rattle.reader.specs.Event.{EventResult}
use Rattle.file_reader.specs.File.{FileState}
use Rattle.file_reader.specs.Held.{file_held}
use Rattle.file_reader.proofs.Given.{given_lines}
use Rattle.file_reader.proofs.Steps.{start_tag_from}
use Rattle.file_reader.proofs.start_tag_ends.Goals as goal

pub returns-clause-value : goal.returns-clause-value
returns-clause-value c =
    let room : length c.args.file.now.bytes.now ≡ 32771 = search rules in
    λ g i.
    let f : FileState = file_held c.args.state.now c.args.file.now in
    let t = c.tag_event_named-answer in
    let r : EventResult = record { state = state_held t.new.state; answer = t.result.0 } in
    start_tag_from f room c.args.empty r c.lesser-used.ensures (t.ensures.value (given_lines f.feeds g) i) t.ensures.bytes t.ensures.named
