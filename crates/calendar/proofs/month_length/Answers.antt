-- `month_length`: February by itself, else the formula.
use Prim.Native.Nat.{◌<◌}
use mathlib.Core.Path.{◌≡◌, sym}
use native.Mathlib.Omega.{arith}
use Rattle.calendar.proofs.Months.{february, month_formula, no_month, past_month}
use Rattle.calendar.proofs.month_length.Goals as goal

pub returns-in-2 : goal.returns-in-2
returns-in-2 c = rw (c.in-2.is, c.if-leap_year.true) (sym (february _))

pub returns-in-2-2 : goal.returns-in-2-2
returns-in-2-2 c = rw (c.in-2.is, c.if-leap_year.false) (sym (february _))

pub returns-in_default : goal.returns-in_default
returns-in_default c =
    sym (month_formula c.args.leap_year c.args.month (omega arith) (omega arith) (λ e. omega arith))

pub returns-in-0 : goal.returns-in-0
returns-in-0 c = let e : c.args.month ≡ 0 = omega arith in rw e (sym (no_month c.args.leap_year))

pub returns-in-0-2 : goal.returns-in-0-2
returns-in-0-2 c = let h : 12 < c.args.month = omega arith in sym (past_month c.args.leap_year c.args.month h)
