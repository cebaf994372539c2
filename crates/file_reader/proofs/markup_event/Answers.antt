-- An attribute twice, or the event's own answer.
use mathlib.Core.Path.{sym, ◌∙◌}
use Rattle.reader.specs.Lent.{state_held}
use Rattle.reader.specs.Event.{EventResult}
use Rattle.file_reader.proofs.Given.{event_once, event_twice}
use Rattle.file_reader.proofs.markup_event.Goals as goal

pub returns-in_default-clause-value : goal.returns-in_default-clause-value
returns-in_default-clause-value c =
    let t = c.line_event-answer in
    let r : EventResult = record { state = state_held t.new.state; answer = t.result } in
    λ g i. event_once c.args.line.now (state_held c.args.state.now) r (t.ensures.value g i) (sym c.twice_at.ensures ∙ c.in_default.is)

pub returns-clause-value : goal.returns-clause-value
returns-clause-value c =
    let t = c.line_event-answer in
    let r : EventResult = record { state = state_held t.new.state; answer = t.result } in
    λ g i. event_twice c.args.line.now (state_held c.args.state.now) r (t.ensures.value g i) c.in-Some.line (sym c.twice_at.ensures ∙ c.in-Some.is)
