-- RFC 3339, section 5.6: what a date-time is, in the order and by the names of its rules, within the ranges of section 5.7; and its value.
-- Each rule is the text that it writes of its parts. That an application may write a space for the "T" is a note there and no rule.
use Rattle.std.specs.Prelude.{ℕ, ◌+◌, ◌-◌, ◌*◌, ◌/◌, ◌%◌, ◌≤◌, ◌≡◌, true, ◌⊎◌, [], ◌∷◌, ◌++◌, length, ℤ, pos, neg_ℤ, ◌-ℤ◌, ◌*ℤ◌, None, Option, Some}
use Prim.Native.Char.{Char, code}
use Rattle.base.specs.Ascii.{ascii}
use Rattle.base.specs.Bytes.{Bytes, all, is_digit}
use Rattle.integer.specs.Integer.{decimal}
use Rattle.calendar.specs.Calendar.{leap, month_days, months_days, years_days}

-- ---- section 5.6: the parts and the text

-- "the "T" and "Z" characters in this syntax may alternatively be lower case "t" or "z" respectively"
pub data Case : Type 0 where
  upper : Case
  lower : Case

unfoldable pub letter : Char → Case → ℕ
letter capital upper = code capital
letter capital lower = code capital + 32

-- "Z", or hours and minutes after "+", or after "-"
pub data Offset : Type 0 where
  utc : Case → Offset
  east : ℕ → ℕ → Offset
  west : ℕ → ℕ → Offset

pub record DateTime : Type 0 where
  pub year : ℕ
  pub month : ℕ
  pub mday : ℕ
  pub separator : Case
  pub hour : ℕ
  pub minute : ℕ
  pub second : ℕ
  pub secfrac : Option Bytes
  pub offset : Offset

-- 2DIGIT and 4DIGIT, of the number that they write
unfoldable pub two : ℕ → Bytes
two n = (48 + n / 10) ∷ (48 + n % 10) ∷ []

unfoldable pub four : ℕ → Bytes
four n = (48 + n / 1000) ∷ (48 + n / 100 % 10) ∷ (48 + n / 10 % 10) ∷ (48 + n % 10) ∷ []

-- date-fullyear   = 4DIGIT
abbrev pub date_fullyear : ℕ → Bytes
date_fullyear n = four n

-- date-month      = 2DIGIT  ; 01-12
abbrev pub date_month : ℕ → Bytes
date_month n = two n

-- date-mday       = 2DIGIT  ; 01-28, 01-29, 01-30, 01-31 based on month/year
abbrev pub date_mday : ℕ → Bytes
date_mday n = two n

-- time-hour       = 2DIGIT  ; 00-23
abbrev pub time_hour : ℕ → Bytes
time_hour n = two n

-- time-minute     = 2DIGIT  ; 00-59
abbrev pub time_minute : ℕ → Bytes
time_minute n = two n

-- time-second     = 2DIGIT  ; 00-58, 00-59, 00-60 based on leap second rules
abbrev pub time_second : ℕ → Bytes
time_second n = two n

-- time-secfrac    = "." 1*DIGIT
abbrev pub time_secfrac : Bytes → Bytes
time_secfrac digits = ascii "." ++ digits

-- time-numoffset  = ("+" / "-") time-hour ":" time-minute
unfoldable pub time_numoffset : Char → ℕ → ℕ → Bytes
time_numoffset sign h m = (code sign ∷ time_hour h) ++ ascii ":" ++ time_minute m

-- time-offset     = "Z" / time-numoffset
unfoldable pub time_offset : Offset → Bytes
time_offset (utc c) = letter "Z" c ∷ []
time_offset (east h m) = time_numoffset "+" h m
time_offset (west h m) = time_numoffset "-" h m

-- [time-secfrac]
unfoldable pub optional : Option Bytes → Bytes
optional None = []
optional (Some digits) = time_secfrac digits

-- partial-time    = time-hour ":" time-minute ":" time-second [time-secfrac]
unfoldable pub partial_time : DateTime → Bytes
partial_time t = time_hour t.hour ++ ascii ":" ++ time_minute t.minute ++ ascii ":" ++ time_second t.second ++ optional t.secfrac

-- full-date       = date-fullyear "-" date-month "-" date-mday
unfoldable pub full_date : DateTime → Bytes
full_date t = date_fullyear t.year ++ ascii "-" ++ date_month t.month ++ ascii "-" ++ date_mday t.mday

-- full-time       = partial-time time-offset
unfoldable pub full_time : DateTime → Bytes
full_time t = partial_time t ++ time_offset t.offset

-- date-time       = full-date "T" full-time
unfoldable pub date_time : DateTime → Bytes
date_time t = full_date t ++ (letter "T" t.separator ∷ full_time t)

-- ---- section 5.7: the ranges

-- section 4.2: "Numeric offsets are calculated as "local time minus UTC"", here in minutes
unfoldable pub offset_minutes : Offset → ℤ
offset_minutes (utc c) = pos 0
offset_minutes (east h m) = pos (h * 60 + m)
offset_minutes (west h m) = neg_ℤ (pos (h * 60 + m))

-- the end of the minute in UTC, in minutes from the start of the date's month
unfoldable pub minute_end : DateTime → ℤ
minute_end t = pos (((t.mday - 1) * 24 + t.hour) * 60 + t.minute + 1) -ℤ offset_minutes t.offset

-- "The grammar element time-second may have the value "60" at the end of months in which a leap second occurs"; "in time zones other than "Z", the
-- leap second point is shifted by the zone offset". Which months these are is announced and follows from no rule (to date: June and December), so
-- this takes the widest reading, the end of any month in UTC: a law about every second 60 then holds by every narrower one too. An offset is
-- less than a day, so the month that ends is the date's or the one before it. Where a second is subtracted, which has never been announced,
-- "59" is taken too.
abbrev pub MonthEnd : DateTime → Type 0
MonthEnd t = (minute_end t ≡ pos 0) ⊎ (minute_end t ≡ pos (month_days (leap t.year) t.month * 24 * 60))

-- 1*DIGIT, where there is a fraction
abbrev pub SomeDigits : Option Bytes → Type 0
SomeDigits None = Unit
SomeDigits (Some digits) = (1 ≤ length digits) × (all is_digit digits ≡ true)

-- the time-hour and the time-minute of an offset
abbrev pub OffsetRanges : Offset → Type 0
OffsetRanges (utc c) = Unit
OffsetRanges (east h m) = (h ≤ 23) × (m ≤ 59)
OffsetRanges (west h m) = (h ≤ 23) × (m ≤ 59)

-- the ranges that the rules' comments name
pub record Ranges (t : DateTime) : Type 0 where
  pub year : t.year ≤ 9999
  pub month1 : 1 ≤ t.month
  pub month12 : t.month ≤ 12
  pub mday1 : 1 ≤ t.mday
  pub mday : t.mday ≤ month_days (leap t.year) t.month
  pub hour : t.hour ≤ 23
  pub minute : t.minute ≤ 59
  pub second : t.second ≤ 60
  pub second60 : t.second ≡ 60 → MonthEnd t
  pub secfrac : SomeDigits t.secfrac
  pub offset : OffsetRanges t.offset

-- ---- the value

-- the whole days and the seconds from the start of year 0, by the local clock
unfoldable pub from_year0 : DateTime → ℕ
from_year0 t =
    (years_days t.year + months_days (leap t.year) (t.month - 1) + (t.mday - 1)) * 86400 + t.hour * 3600 + t.minute * 60 + t.second

-- the seconds from 1970-01-01T00:00:00Z: "by subtracting the offset from the local time" (section 4.2). A leap second counts as the second after it.
unfoldable pub since_epoch : DateTime → ℤ
since_epoch t = pos (from_year0 t) -ℤ pos (years_days 1970 * 86400) -ℤ offset_minutes t.offset *ℤ pos 60

-- the number that the digits of the fraction write, 0 where there is none
unfoldable pub fraction : Option Bytes → ℕ
fraction None = 0
fraction (Some digits) = decimal 0 digits

-- the text is a date-time, and its value is v seconds with no fraction of one more
pub record IsDateTime (s : Bytes) (v : ℤ) : Type 0 where
  pub time : DateTime
  pub ranges : Ranges time
  pub text : s ≡ date_time time
  pub seconds : v ≡ since_epoch time
  pub whole : fraction time.secfrac ≡ 0
