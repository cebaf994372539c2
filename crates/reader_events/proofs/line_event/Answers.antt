-- 22 where the count of lines is at its largest, the stop mark, then the step.
use Rattle.std.proofs.lemmas.Result.{err_from_is_err_and}
use mathlib.Core.Path.{sym, ◌∙◌}
use Rattle.reader.specs.Lent.{state_held}
use Rattle.reader_calls.proofs.Events.{event_checked, event_goes_by}
use Rattle.reader_events.proofs.Runs.{counts_sound}
use Rattle.reader_events.proofs.line_event.Goals as goal

pub returns-in_err-check_going-clause-value : goal.returns-in_err-check_going-clause-value
returns-in_err-check_going-clause-value c =
    let s = state_held c.args.state.now in
    let p = err_from_is_err_and c.from_residual.result c.from_residual.ensures.1 in
    λ g i. rw (p.1, p.2) (event_checked c.args.line.now s (rw (counts_sound s g) at (sym c.check_going.ensures ∙ c.in_err-check_going.was)))

pub returns-clause-value : goal.returns-clause-value
returns-clause-value c =
    let s = state_held c.args.state.now in
    λ g i. event_goes_by c.args.line.now s (rw (counts_sound s g) at (sym c.check_going.ensures ∙ c.in_ok-check_going.was)) i c.event_going.ensures.value
