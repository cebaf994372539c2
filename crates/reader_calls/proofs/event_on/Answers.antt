-- 22, the stop mark, then what is decided of the line.
use Rattle.std.proofs.lemmas.Result.{err_from_is_err_and}
use mathlib.Core.Path.{sym, ◌∙◌, ap}
use Rattle.reader.specs.Lent.{state_held}
use Rattle.reader.specs.State.{state_sound}
use Rattle.reader_calls.proofs.Events.{event_checked, event_goes_by, none_serve}
use Rattle.reader_calls.proofs.event_on.Goals as goal

pub returns-in_err-check_going-clause-value : goal.returns-in_err-check_going-clause-value
returns-in_err-check_going-clause-value c =
    let p = err_from_is_err_and c.from_residual.result c.from_residual.ensures.1 in
    let e = c.state_sound-sound.ensures ∙ ap state_sound c.view.ensures in
    rw (p.1, p.2) (event_checked c.args.line.now (state_held c.args.state.now) (rw e at (sym c.check_going.ensures ∙ c.in_err-check_going.was)))

pub returns-clause-value : goal.returns-clause-value
returns-clause-value c =
    let e = c.state_sound-sound.ensures ∙ ap state_sound c.view.ensures in
    let s = state_held c.args.state.now in
    event_goes_by c.args.line.now s (rw e at (sym c.check_going.ensures ∙ c.in_ok-check_going.was)) (none_serve s _ c.none.ensures) c.event_going.ensures.value
