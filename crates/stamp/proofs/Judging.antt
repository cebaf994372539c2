-- Laws of the tests on a moment.
use Prim.Native.Nat.{ℕ, ◌<◌, ◌≤◌}
use mathlib.Core.Path.{◌≡◌}
use mathlib.Core.Bool.{true, false}
use lib.Dec.{leb}
use borrow.Author.Tests.{le-leb, lt-leb, leb-true}
use Rattle.base.specs.Bytes.{both}
use Rattle.base.proofs.Split.{both_left, both_right, both_no_left, both_no_right}
use Rattle.calendar.specs.Calendar.{leap, month_days}
use Rattle.stamp.specs.Stamp.{taken_moment}
use Rattle.stamp.specs.declared.Moment.{Moment}

module _ (m : Moment) where
  pub before_month : m.month < 1 → taken_moment m ≡ false
  unfolding taken_moment
  before_month h = both_no_left _ _ (both_no_left _ _ (lt-leb 1 m.month h))

  pub after_month : 12 < m.month → taken_moment m ≡ false
  unfolding taken_moment
  after_month h = both_no_left _ _ (both_no_right _ (lt-leb m.month 12 h))

  pub of_month : (len : ℕ) → 1 ≤ m.month → m.month ≤ 12 → len ≡ month_days (leap m.year) m.month → taken_moment m ≡ both (both (leb 1 m.day) (leb m.day len)) (both (leb m.hour 23) (both (leb m.minute 59) (leb m.second 59)))
  unfolding taken_moment both
  of_month len h k e = rw (← e, le-leb 1 m.month h, le-leb m.month 12 k)

-- what is taken is within these bounds
pub record MomentRanges (m : Moment) : Type 0 where
  pub month1 : 1 ≤ m.month
  pub month12 : m.month ≤ 12
  pub day1 : 1 ≤ m.day
  pub day : m.day ≤ month_days (leap m.year) m.month
  pub hour : m.hour ≤ 23
  pub minute : m.minute ≤ 59
  pub second : m.second ≤ 59

pub moment_ranges : (m : Moment) → taken_moment m ≡ true → MomentRanges m
unfolding taken_moment
moment_ranges m h =
    let h1 = both_right _ _ h in
    let h2 = both_right _ _ h1 in
    let h3 = both_right _ _ h2 in
    record {
      month1 = leb-true _ _ (both_left _ _ (both_left _ _ h));
      month12 = leb-true _ _ (both_right _ _ (both_left _ _ h));
      day1 = leb-true _ _ (both_left _ _ (both_left _ _ h1));
      day = leb-true _ _ (both_right _ _ (both_left _ _ h1));
      hour = leb-true _ _ (both_left _ _ h2);
      minute = leb-true _ _ (both_left _ _ h3);
      second = leb-true _ _ (both_right _ _ h3);
    }
