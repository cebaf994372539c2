-- `integer_32`: the bits fit.
use mathlib.Core.Path.{sym}
use mir.Syntax.{w32}
use Rattle.event_values.proofs.Values.{number_text, narrow_fits}
use Rattle.event_values.proofs.integer_32.Goals as goal

pub returns-in_err-b : goal.returns-in_err-b
returns-in_err-b c = rw c.from_residual.ensures (number_text w32 c.args.v.now c.in_err-b.ensures)

pub overflow_cast-result : goal.overflow_cast-result
overflow_cast-result c = narrow_fits _ _ (sym c.in_ok-b.ensures)

pub returns : goal.returns
returns c = number_text w32 c.args.v.now c.in_ok-b.ensures
