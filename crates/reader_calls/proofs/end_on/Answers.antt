-- 22, the stop mark, then the level.
use Rattle.std.proofs.lemmas.Result.{err_from_is_err_and}
use mathlib.Core.Path.{sym, ◌∙◌}
use native.Mathlib.Omega.{arith}
use Rattle.reader.specs.Lent.{state_seen}
use Rattle.reader_calls.proofs.Ends.{end_checked, end_is_done, end_unfinished, end_counts}
use Rattle.reader_calls.proofs.end_on.Goals as goal

pub returns-in_err-check_going : goal.returns-in_err-check_going
returns-in_err-check_going c =
    let p = err_from_is_err_and c.from_residual.result c.from_residual.ensures.1 in
    rw (p.1, p.2) (end_checked (state_seen c.args.state.now) (rw c.state_sound-sound.ensures at (sym c.check_going.ensures ∙ c.in_err-check_going.was)))

pub returns-then-is_done : goal.returns-then-is_done
returns-then-is_done c =
    end_is_done (state_seen c.args.state.now) (rw c.state_sound-sound.ensures at (sym c.check_going.ensures ∙ c.in_ok-check_going.was)) (sym c.is_done.ensures ∙ c.if-is_done.true)

pub overflow_add-result : goal.overflow_add-result
overflow_add-result c =
    let l = end_counts (state_seen c.args.state.now) (rw c.state_sound-sound.ensures at (sym c.check_going.ensures ∙ c.in_ok-check_going.was)) in
    omega arith

pub returns : goal.returns
returns c =
    end_unfinished (state_seen c.args.state.now) (rw c.state_sound-sound.ensures at (sym c.check_going.ensures ∙ c.in_ok-check_going.was)) (sym c.is_done.ensures ∙ c.if-is_done.false)
