-- The refusal of the line, or what is decided of it, done.
use Rattle.std.proofs.lemmas.Result.{err_from_is_err_and}
use mathlib.Core.Path.{◌∙◌, ap}
use Rattle.event_decision.specs.Decision.{Decision}
use Rattle.reader.specs.Lent.{state_held}
use Rattle.reader.specs.Step.{step_of}
use Rattle.reader.specs.Done.{done_by}
use Rattle.reader_calls.proofs.Events.{step_given, step_refused}
use Rattle.reader_calls.proofs.line_step.Goals as goal

pub returns-in_err-task-clause-done : goal.returns-in_err-task-clause-done
returns-in_err-task-clause-done c =
    let p = err_from_is_err_and c.from_residual.result c.from_residual.ensures.1 in
    λ e i. rw (p.1, p.2) (step_refused c.args.line.now (state_held c.args.state.now) (rw c.in_err-task.was at c.task_of.ensures.means))

pub returns-clause-done : goal.returns-clause-done
returns-clause-done c =
    let s = state_held c.args.state.now in
    λ e i.
    c.step.ensures.done (step_given c.args.line.now s e i)
    ∙ ap (λ (d : Decision). done_by s (step_of d s)) (rw c.in_ok-task.was at c.task_of.ensures.means)
