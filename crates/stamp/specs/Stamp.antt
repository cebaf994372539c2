-- Document 01: "`parse_rfc3339_utc` takes 20 bytes, RFC 3339's separators"; document 02, request 6: "Every field of a timestamp must now be digits."
use Rattle.base.specs.Options.{bind}
use Rattle.std.specs.Prelude.{ℕ, ◌+◌, ◌-◌, ◌*◌, Bool, cond, eqb, leb, length, get_or, take, drop, ℤ, pos, ◌-ℤ◌, None, Option, Some, option_map}
use Rattle.std.specs.Int.{w64}
use Rattle.std.proofs.Common.{of_z}
use Rattle.base.specs.Bytes.{Bytes, both}
use Rattle.base.specs.Chars.{minus_sign, colon, letter_t, letter_z}
use Rattle.integer.specs.Integer.{digits}
use Rattle.calendar.specs.Calendar.{leap, month_days, months_days, years_days}
use Rattle.stamp.specs.declared.Moment.{Moment}

-- a field of a stamp: the number of count digits from a place on
unfoldable pub stamp_field : Bytes → ℕ → ℕ → Option ℕ
stamp_field s from count = digits (take count (drop from s))

-- RFC 3339's separators in a text of 20 bytes: ....-..-..T..:..:..Z
unfoldable pub separated : Bytes → Bool
separated s =
    both (eqb (get_or s 4 0) minus_sign)
    (both (eqb (get_or s 7 0) minus_sign)
    (both (eqb (get_or s 10 0) letter_t)
    (both (eqb (get_or s 13 0) colon)
    (both (eqb (get_or s 16 0) colon)
    (eqb (get_or s 19 0) letter_z)))))

-- "takes 20 bytes, RFC 3339's separators"
unfoldable pub shaped : Bytes → Bool
shaped s = both (eqb (length s) 20) (separated s)

-- "only hour, minute, second above 23, 59, 59, day 0, day above the month's length and month outside 1 to 12 are refused"
unfoldable pub taken_moment : Moment → Bool
taken_moment t =
    both (both (leb 1 t.month) (leb t.month 12))
    (both (both (leb 1 t.day) (leb t.day (month_days (leap t.year) t.month)))
    (both (leb t.hour 23)
    (both (leb t.minute 59)
    (leb t.second 59))))

-- the days from the first day of year 0 to the moment's date
unfoldable pub days_of : Moment → ℕ
days_of t = years_days t.year + months_days (leap t.year) (t.month - 1) + (t.day - 1)

-- 1970-01-01T00:00:00Z in seconds from the first day of year 0
unfoldable pub epoch : ℕ
epoch = years_days 1970 * 86400

-- the seconds from 1970-01-01T00:00:00Z to the moment
unfoldable pub seconds_of : Moment → ℤ
seconds_of t = pos (days_of t * 86400 + t.hour * 3600 + t.minute * 60 + t.second) -ℤ pos epoch

-- the fields in their order; all must be digits
unfoldable pub moment : Bytes → Option Moment
moment s =
    bind (stamp_field s 0 4) (λ y.
    bind (stamp_field s 5 2) (λ m.
    bind (stamp_field s 8 2) (λ d.
    bind (stamp_field s 11 2) (λ h.
    bind (stamp_field s 14 2) (λ i.
    bind (stamp_field s 17 2) (λ x.
    Some (record { year = y; month = m; day = d; hour = h; minute = i; second = x })))))))

unfoldable pub accepted_moment : Option Moment → Option ℤ
accepted_moment None = None
accepted_moment (Some t) = cond (taken_moment t) (Some (seconds_of t)) None

unfoldable pub stamp : Bytes → Option ℤ
stamp s = cond (shaped s) (accepted_moment (moment s)) None

-- the reader's answer: the bits of the seconds
unfoldable pub stamp_of : Bytes → Option ℕ
stamp_of s = option_map (of_z w64) (stamp s)
