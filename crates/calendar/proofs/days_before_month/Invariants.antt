-- `days_before_month`: the loop's sum is the days of the months passed.
use Prim.Native.Nat.{◌-◌, ◌≤◌, max}
use mathlib.Core.Path.{◌≡◌}
use Rattle.calendar.specs.Calendar.{months_days}
use Rattle.calendar.proofs.days_before_month.Given as goal

abbrev pub invariant-loop-m : goal.invariant-loop-m
invariant-loop-m l = (l.m ≤ max l.month 1) × (l.days ≡ months_days l.leap_year (l.m - 1))
