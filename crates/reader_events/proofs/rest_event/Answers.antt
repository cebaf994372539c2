-- What is left is unfinished, or an event.
use Rattle.reader.specs.Lent.{state_held}
use Rattle.reader_events.proofs.Runs.{rest_short, rest_long}
use Rattle.reader_events.proofs.rest_event.Goals as goal

pub returns-then-rest-le-MAX_LINE-clause-value : goal.returns-then-rest-le-MAX_LINE-clause-value
returns-then-rest-le-MAX_LINE-clause-value c = λ g i. rest_short c.args.rest.now (state_held c.args.state.now) c.if-rest-le-MAX_LINE.true

pub returns-clause-value : goal.returns-clause-value
returns-clause-value c = λ g i. rest_long c.args.rest.now (state_held c.args.state.now) c.if-rest-le-MAX_LINE.false (c.line_event.ensures.value g i)
