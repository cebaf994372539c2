-- `days_before_year`: the formula is that of the counted days.
use mathlib.Core.Path.{sym}
use Rattle.calendar.proofs.Years.{years_formula}
use Rattle.calendar.proofs.days_before_year.Goals as goal

pub returns : goal.returns
returns c = rw c.from-y.ensures (sym (years_formula c.args.year))
