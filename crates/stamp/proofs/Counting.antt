-- Laws of the days and the seconds of a moment.
use Prim.Native.Nat.{ℕ, ◌+◌, ◌-◌, ◌*◌, ◌≤◌}
use mathlib.Core.Path.{◌≡◌}
use mathlib.Core.Bool.{Bool}
use native.Mathlib.Omega.{arith}
use Rattle.calendar.specs.Calendar.{leap, months_days, years_days}
use Rattle.calendar.proofs.Years.{years_formula, years_high}
use Rattle.calendar.proofs.Months.{months_high}
use Rattle.stamp.specs.Stamp.{days_of, epoch}
use Rattle.stamp.specs.declared.Moment.{Moment}

-- 719,528 days from the first day of year 0 to 1970-01-01
pub epoch_is : epoch ≡ 62167219200
unfolding epoch
epoch_is = omega (arith, years_formula 1970)

module _ (m : Moment) where
  pub days_are : {l : Bool} {y k : ℕ} → l ≡ leap m.year → y ≡ years_days m.year → k ≡ months_days l (m.month - 1) → y + k + (m.day - 1) ≡ days_of m
  unfolding days_of
  days_are e f g = rw (f, g, e)

  pub days_high : days_of m ≤ 366 * m.year + 31 * m.month + m.day
  unfolding days_of
  days_high = omega (arith, years_high m.year, months_high (leap m.year) (m.month - 1))
