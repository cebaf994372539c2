-- `task_of` goes by the line's event.
use Rattle.std.proofs.Common.{◌∙◌}
use Rattle.event_decision.specs.Decision.{decide_event}
use Rattle.event_values.proofs.Values.{handed_on}
use Rattle.event_decide.proofs.Tasked.{decided_refused, decided_read, task_wider, behind_name}
use Rattle.event_decide.proofs.tasks.task_of.Goals as goal

pub returns-in_err-empty : goal.returns-in_err-empty
returns-in_err-empty c =
    record {
      means = rw (handed_on c.from_residual.ensures) (decided_refused c.args.line.now c.args.place _ c.in_err-empty.ensures.means);
      in_bounds = rw (handed_on c.from_residual.ensures) tt;
      written = rw (handed_on c.from_residual.ensures) tt;
    }

pub returns-in-Starts : goal.returns-in-Starts
unfolding decide_event
returns-in-Starts c =
    let lies = rw c.in-Starts.is at c.in_ok-empty.ensures.in_bounds in
    record {
      means = c.opens.ensures.means ∙ decided_read c.args.line.now c.args.place _ (rw c.in-Starts.is at c.in_ok-empty.ensures.means);
      in_bounds = task_wider _ lies.1 c.opens.ensures.in_bounds;
      written = rw (behind_name _ _ _ (rw c.in-Starts.is at c.in_ok-empty.ensures.written)) c.opens.ensures.written;
    }

pub returns-in-Closes : goal.returns-in-Closes
unfolding decide_event
returns-in-Closes c =
    record {
      means = c.closes.ensures.means ∙ decided_read c.args.line.now c.args.place _ (rw c.in-Closes.is at c.in_ok-empty.ensures.means);
      in_bounds = c.closes.ensures.in_bounds _;
      written = c.closes.ensures.written _;
    }

pub returns-in-Others : goal.returns-in-Others
unfolding decide_event
returns-in-Others c =
    record {
      means = decided_read c.args.line.now c.args.place _ (rw c.in-Others.is at c.in_ok-empty.ensures.means);
      in_bounds = tt;
      written = tt;
    }
