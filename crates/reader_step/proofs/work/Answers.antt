-- Where nothing is to be done the place alone changes, and of a refusal nothing. What is short of a deed is so of what it holds.
use Rattle.reader.specs.Lent.{state_held}
use Rattle.reader_step.proofs.Steps.{moves_works, refuses_works}
use Rattle.reader_step.proofs.work.Goals as goal

pub returns-in-Refuses-clause-works : goal.returns-in-Refuses-clause-works
returns-in-Refuses-clause-works g c = λ short given. rw c.in-Refuses.is (refuses_works (state_held c.args.state.now) _)

pub returns-in-Nothing-clause-works : goal.returns-in-Nothing-clause-works
returns-in-Nothing-clause-works g c = λ short given. rw c.in-Nothing.is (moves_works (state_held c.args.state.now))

pub returns-in-Begins-clause-works : goal.returns-in-Begins-clause-works
returns-in-Begins-clause-works g c = λ short given. rw c.in-Begins.is (c.begin.ensures.works (rw c.in-Begins.is at short) given)

pub returns-in-Deletes-clause-works : goal.returns-in-Deletes-clause-works
returns-in-Deletes-clause-works g c = λ short given. rw c.in-Deletes.is (c.delete.ensures.works (rw c.in-Deletes.is at short) given)

pub returns-in-Tags-clause-works : goal.returns-in-Tags-clause-works
returns-in-Tags-clause-works g c = λ short given. let x = rw c.in-Tags.is at short in rw c.in-Tags.is (c.add_tag.ensures.works x.0 x.1 given)

pub returns-in-Joins-clause-works : goal.returns-in-Joins-clause-works
returns-in-Joins-clause-works g c = λ short given. rw c.in-Joins.is (c.add_member.ensures.works (rw c.in-Joins.is at short) given)
