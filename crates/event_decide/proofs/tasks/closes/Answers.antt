-- `closes`: the close of an element holds no text.
use Rattle.event_decide.proofs.tasks.closes.Goals as goal

pub returns-in-Element-clause-in_bounds : goal.returns-in-Element-clause-in_bounds
returns-in-Element-clause-in_bounds c = λ n. c.unless_deleted.ensures.in_bounds n tt

pub returns-in-Element-clause-written : goal.returns-in-Element-clause-written
returns-in-Element-clause-written c = λ attrs. c.unless_deleted.ensures.written attrs tt
