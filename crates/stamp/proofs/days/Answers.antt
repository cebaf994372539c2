-- `days`: the days of the years, of the months and of the month up to a date, and that their sum fits.
use native.Mathlib.Omega.{arith}
use Rattle.stamp.proofs.Judging.{moment_ranges}
use Rattle.stamp.proofs.Counting.{days_are, days_high}
use Rattle.stamp.proofs.days.Goals as goal

pub overflow_cast-m : goal.overflow_cast-m
overflow_cast-m c = omega (arith, moment_ranges _ c.requires)

pub overflow_add-result : goal.overflow_add-result
overflow_add-result c =
    let m = c.args.m in
    omega (arith, days_are m c.is_leap.ensures c.days_before_year.ensures c.days_before_month-months.ensures, days_high m, moment_ranges m c.requires)

pub overflow_sub-result : goal.overflow_sub-result
overflow_sub-result c = (moment_ranges _ c.requires).day1
