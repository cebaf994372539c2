use Prim.Native.Nat.{◌-◌}
use mathlib.Core.Path.{sym}
use native.Mathlib.Omega.{arith}
use Rattle.calendar.proofs.Months.{months_none, months_step, months_high, month_bounds}
use Rattle.calendar.proofs.days_before_month.Goals as goal

pub loop-m-init : goal.loop-m-init
loop-m-init c = (omega arith, sym (months_none c.args.leap_year))

pub overflow_add-days : goal.overflow_add-days
overflow_add-days c =
    omega (arith, months_high c.args.leap_year (c.loop-m.m - 1), month_bounds c.args.leap_year c.loop-m.m)

pub loop-m-preserved : goal.loop-m-preserved
loop-m-preserved c =
    (omega arith, rw (c.loop-m.invariant.1, c.from-days.ensures, c.month_length.ensures) (sym (months_step c.args.leap_year c.loop-m.m (omega arith))))
