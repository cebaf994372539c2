-- A text that the reader reads is that of a date-time of the kept form, and a date-time's text gives its numbers back.
use Rattle.std.specs.Prelude.{None, Option, Some}
use Prim.Native.Nat.{ℕ, ◌+◌, ◌≤◌}
use mathlib.Core.Path.{◌≡◌, refl, ◌∙◌}
use mathlib.Core.Bool.{true}
use native.Mathlib.Omega.{arith}
use lib.ListN.{length, get_or, take, drop, drop_of_length-le}
use borrow.Author.Tests.{eqb-true}
use Rattle.base.specs.Bytes.{Bytes, both}
use Rattle.base.proofs.Split.{both_left, both_right}
use Rattle.calendar.specs.Calendar.{leap}
use Rattle.calendar.proofs.Months.{month_bounds}
use Rattle.stamp.specs.declared.Moment.{Moment}
use Rattle.stamp.specs.Stamp.{stamp_field, separated, shaped, moment}
use Rattle.stamp.proofs.Reading.{moment_of_lem}
use Rattle.stamp.proofs.Bounds.{Fields}
use Rattle.rfc3339.specs.Rfc3339.{Case, upper, Offset, utc, DateTime, letter, two, four, time_offset, optional, partial_time, full_date, full_time, date_time, Ranges}
use Rattle.rfc3339.proofs.Fields.{two_digits, two_back, four_digits, four_back, field_length, field_splits}

-- the numbers of a date-time with another separator, fraction and offset
abbrev pub marked : DateTime → Case → Option Bytes → Offset → DateTime
marked t c o f =
    record {
      year = t.year;
      month = t.month;
      mday = t.mday;
      separator = c;
      hour = t.hour;
      minute = t.minute;
      second = t.second;
      secfrac = o;
      offset = f;
    }

-- in the kept form
abbrev pub unmarked : DateTime → DateTime
unmarked t = marked t upper None (utc upper)

-- the numbers of a date-time, as the reader has them
unfoldable pub moment_of : DateTime → Moment
moment_of t = record { year = t.year; month = t.month; day = t.mday; hour = t.hour; minute = t.minute; second = t.second }

-- a moment, as a date-time of the kept form
unfoldable pub date_time_of : Moment → DateTime
date_time_of m =
    record {
      year = m.year;
      month = m.month;
      mday = m.day;
      separator = upper;
      hour = m.hour;
      minute = m.minute;
      second = m.second;
      secfrac = None;
      offset = utc upper;
    }

pub moment_back : (t : DateTime) → date_time_of (moment_of t) ≡ unmarked t
unfolding date_time_of moment_of
moment_back t = refl

pub record Shape (s : Bytes) : Type 0 where
  pub long : length s ≡ 20
  pub at4 : get_or s 4 0 ≡ 45
  pub at7 : get_or s 7 0 ≡ 45
  pub at10 : get_or s 10 0 ≡ 84
  pub at13 : get_or s 13 0 ≡ 58
  pub at16 : get_or s 16 0 ≡ 58
  pub at19 : get_or s 19 0 ≡ 90

pub shape : (s : Bytes) → shaped s ≡ true → Shape s
unfolding shaped separated
shape s h =
    let h1 = both_right _ _ h in
    let h2 = both_right _ _ h1 in
    let h3 = both_right _ _ h2 in
    let h4 = both_right _ _ h3 in
    let h5 = both_right _ _ h4 in
    record {
      long = eqb-true _ _ (both_left _ _ h);
      at4 = eqb-true _ _ (both_left _ _ h1);
      at7 = eqb-true _ _ (both_left _ _ h2);
      at10 = eqb-true _ _ (both_left _ _ h3);
      at13 = eqb-true _ _ (both_left _ _ h4);
      at16 = eqb-true _ _ (both_left _ _ h5);
      at19 = eqb-true _ _ (both_right _ _ h5);
    }

-- a text of the shape is that of the moment in its fields
module _ (s : Bytes) (h : Shape s) where
  pair : (from : ℕ) {n : ℕ} → from + 2 ≤ 20 → stamp_field s from 2 ≡ Some n → take 2 (drop from s) ≡ two n
  unfolding stamp_field
  pair from l e = two_back (take 2 (drop from s)) e (field_length s from 2 (omega arith))

  quad : {n : ℕ} → stamp_field s 0 4 ≡ Some n → take 4 (drop 0 s) ≡ four n
  unfolding stamp_field
  quad e = four_back (take 4 (drop 0 s)) e (field_length s 0 4 (omega arith))

  pub spelled : (m : Moment) → Fields s m → s ≡ date_time (date_time_of m)
  unfolding date_time full_date full_time partial_time optional time_offset letter date_time_of two four
  spelled m f =
      field_splits s 0 4 (omega arith)
      ∙ rw (
        field_splits s 5 2 (omega arith),
        field_splits s 8 2 (omega arith),
        field_splits s 11 2 (omega arith),
        field_splits s 14 2 (omega arith),
        field_splits s 17 2 (omega arith),
        drop_of_length-le s {i = 20} (omega arith),
        quad f.year,
        pair 5 (omega arith) f.month,
        pair 8 (omega arith) f.day,
        pair 11 (omega arith) f.hour,
        pair 14 (omega arith) f.minute,
        pair 17 (omega arith) f.second,
        h.at4,
        h.at7,
        h.at10,
        h.at13,
        h.at16,
        h.at19,
      )

module _ (t : DateTime) where
  pub unmarked_shape : shaped (date_time (unmarked t)) ≡ true
  unfolding shaped separated date_time full_date full_time partial_time optional time_offset letter two four both
  unmarked_shape = refl

  -- the numbers stand at the same places in every date-time
  pub written_moment : Ranges t → moment (date_time t) ≡ Some (moment_of t)
  unfolding moment_of stamp_field date_time full_date full_time partial_time two four
  written_moment r =
      let days = month_bounds (leap t.year) t.month in
      moment_of_lem (date_time t) (moment_of t)
      (four_digits t.year (omega arith))
      (two_digits t.month (omega arith))
      (two_digits t.mday (omega arith))
      (two_digits t.hour (omega arith))
      (two_digits t.minute (omega arith))
      (two_digits t.second (omega arith))
