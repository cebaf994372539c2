-- All lines, by chains that hold no handle.
use mathlib.Core.Path.{refl}
use Rattle.reader.specs.Lent.{state_held}
use Rattle.reader_events.proofs.Chains.{zeros_given}
use Rattle.reader_events.proofs.events_untested.Goals as goal

pub returns-clause-answer_value : goal.returns-clause-answer_value
returns-clause-answer_value c = λ g. c.events_by.ensures.answer_value g (zeros_given _ (state_held c.args.state.now) refl refl g)

pub returns-clause-taken_value : goal.returns-clause-taken_value
returns-clause-taken_value c = λ g. c.events_by.ensures.taken_value g (zeros_given _ (state_held c.args.state.now) refl refl g)
