-- Section 5.8: its five examples are date-times of the instants that it says. And a leap second east of UTC, and where there is none.
use Rattle.std.specs.Prelude.{None, Option, Some}
use Prim.Native.Nat.{ℕ, ◌≤◌}
use mathlib.Core.Path.{◌≡◌, refl, ap}
use mathlib.Core.Logic.{inl, inr, ⊎_elim}
use native.Mathlib.Omega.{arith}
use lib.IntN.{ℤ, pos, negsuc, nat_abs}
use Rattle.base.specs.Ascii.{ascii}
use Rattle.base.specs.Bytes.{Bytes, all, both, either, is_digit}
use Rattle.base.proofs.Split.{no}
use Rattle.calendar.specs.Calendar.{leap, month_days, months_days, year_days, years_days}
use Rattle.rfc3339.specs.Rfc3339.{upper, Offset, utc, east, west, DateTime, letter, two, four, time_numoffset, time_offset, optional, partial_time, full_date, full_time, date_time, offset_minutes, minute_end, MonthEnd, SomeDigits, OffsetRanges, Ranges, from_year0, since_epoch}

abbrev of : ℕ → ℕ → ℕ → ℕ → ℕ → ℕ → Option Bytes → Offset → DateTime
of y m d h i s o f = record { year = y; month = m; mday = d; separator = upper; hour = h; minute = i; second = s; secfrac = o; offset = f }

-- a text is that of a date-time within the ranges, and so many whole seconds from the epoch
pub record Example (s : Bytes) (t : DateTime) (v : ℤ) : Type 0 where
  pub text : s ≡ date_time t
  pub ranges : Ranges t
  pub seconds : since_epoch t ≡ v

abbrev Numbers : DateTime → Type 0
Numbers t =
    (t.year ≤ 9999) × (1 ≤ t.month) × (t.month ≤ 12) × (1 ≤ t.mday) × (t.mday ≤ month_days (leap t.year) t.month) × (t.hour ≤ 23) × (t.minute ≤ 59) × (t.second ≤ 60)

within : {t : DateTime} → Numbers t → (t.second ≡ 60 → MonthEnd t) → SomeDigits t.secfrac → OffsetRanges t.offset → Ranges t
within n l o f =
    record { year = n.0; month1 = n.1; month12 = n.2; mday1 = n.3; mday = n.4; hour = n.5; minute = n.6; second = n.7; second60 = l; secfrac = o; offset = f }

pub record Examples : Type 0 where
  -- "20 minutes and 50.52 seconds after the 23rd hour of April 12th, 1985 in UTC"
  pub fraction : Example (ascii "1985-04-12T23:20:50.52Z") (of 1985 4 12 23 20 50 (Some (ascii "52")) (utc upper)) (pos 482196050)
  -- "Note that this is equivalent to 1996-12-20T00:39:57Z in UTC."
  pub offset : Example (ascii "1996-12-19T16:39:57-08:00") (of 1996 12 19 16 39 57 None (west 8 0)) (pos 851042397)
  pub equivalent : Example (ascii "1996-12-20T00:39:57Z") (of 1996 12 20 0 39 57 None (utc upper)) (pos 851042397)
  -- "the leap second inserted at the end of 1990"
  pub leap_second : Example (ascii "1990-12-31T23:59:60Z") (of 1990 12 31 23 59 60 None (utc upper)) (pos 662688000)
  -- "the same leap second in Pacific Standard Time, 8 hours behind UTC"
  pub leap_west : Example (ascii "1990-12-31T15:59:60-08:00") (of 1990 12 31 15 59 60 None (west 8 0)) (pos 662688000)
  -- "the same instant of time as noon, January 1, 1937, Netherlands time"
  pub fraction_offset : Example (ascii "1937-01-01T12:00:27.87+00:20") (of 1937 1 1 12 0 27 (Some (ascii "87")) (east 0 20)) (negsuc 1041337172)
  -- not in section 5.8: that leap second 9 hours ahead of UTC, where the new year has begun
  pub leap_east : Example (ascii "1991-01-01T08:59:60+09:00") (of 1991 1 1 8 59 60 None (east 9 0)) (pos 662688000)

pub examples : Examples
unfolding date_time full_date full_time partial_time optional time_offset time_numoffset letter two four leap month_days months_days year_days years_days both either all is_digit offset_minutes minute_end from_year0 since_epoch
examples =
    record {
      fraction = record { text = refl; ranges = within (omega arith) (λ e. no (omega arith)) (omega arith, refl) tt; seconds = refl };
      offset = record { text = refl; ranges = within (omega arith) (λ e. no (omega arith)) tt (omega arith); seconds = refl };
      equivalent = record { text = refl; ranges = within (omega arith) (λ e. no (omega arith)) tt tt; seconds = refl };
      leap_second = record { text = refl; ranges = within (omega arith) (λ e. inr refl) tt tt; seconds = refl };
      leap_west = record { text = refl; ranges = within (omega arith) (λ e. inr refl) tt (omega arith); seconds = refl };
      fraction_offset = record { text = refl; ranges = within (omega arith) (λ e. no (omega arith)) (omega arith, refl) (omega arith); seconds = refl };
      leap_east = record { text = refl; ranges = within (omega arith) (λ e. inl refl) tt (omega arith); seconds = refl };
    }

-- the end of a month by the local clock alone has no leap second
pub no_leap_here : Ranges (of 1990 12 31 23 59 60 None (west 8 0)) → ⊥
unfolding month_days offset_minutes minute_end either
no_leap_here r =
    ⊎_elim
    (λ e. let w : ◌≡◌ {A = ℕ} 45120 0 = ap nat_abs e in omega arith)
    (λ e. let w : ◌≡◌ {A = ℕ} 45120 44640 = ap nat_abs e in omega arith)
    (r.second60 refl)
