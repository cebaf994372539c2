-- The calendar of RFC 3339: the Gregorian calendar, also before it was in use. Days are counted one year and one month at a time.
use Rattle.std.specs.Prelude.{ℕ, zero, suc, ◌+◌, ◌%◌, Bool, cond, not, eqb}
use Rattle.base.specs.Bytes.{both, either}

-- RFC 3339, appendix C: a year is a leap year if it is divisible by 4, and by 400 if it is divisible by 100
unfoldable pub leap : ℕ → Bool
leap y = both (eqb (y % 4) 0) (either (not (eqb (y % 100) 0)) (eqb (y % 400) 0))

-- RFC 3339, section 5.7: 30 days in April, June, September and November, 28 or 29 in February, else 31
unfoldable pub month_days : Bool → ℕ → ℕ
month_days l m =
    cond (eqb m 2) (cond l 29 28)
    (cond (either (either (eqb m 4) (eqb m 6)) (either (eqb m 9) (eqb m 11))) 30 31)

-- the days of the first k months of a year
unfoldable pub months_days : Bool → ℕ → ℕ
months_days l zero = 0
months_days l (suc k) = months_days l k + month_days l (suc k)

unfoldable pub year_days : ℕ → ℕ
year_days y = months_days (leap y) 12

-- the days of the years from 0 up to y, y left out
unfoldable pub years_days : ℕ → ℕ
years_days zero = 0
years_days (suc y) = years_days y + year_days y
