-- What is left after the step.
use Rattle.reader.specs.Lent.{state_held}
use Rattle.reader_sound.proofs.Sound.{sound_lines}
use Rattle.reader_calls.proofs.Events.{event_steps}
use Rattle.reader_calls.proofs.event_going.Goals as goal

pub returns-in-Ok-clause-value : goal.returns-in-Ok-clause-value
returns-in-Ok-clause-value c =
    let s = state_held c.args.state.now in
    λ e i. rw (c.next_line-number.ensures (sound_lines s e)) (event_steps c.args.line.now s (rw c.in-Ok.is at (c.line_step.ensures.done e i)))

pub returns-in-Err-clause-value : goal.returns-in-Err-clause-value
returns-in-Err-clause-value c =
    let s = state_held c.args.state.now in
    λ e i. rw (c.next_line-number.ensures (sound_lines s e)) (event_steps c.args.line.now s (rw c.in-Err.is at (c.line_step.ensures.done e i)))
