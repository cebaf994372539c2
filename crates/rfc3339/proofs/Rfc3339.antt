-- The timestamp reader against RFC 3339: it takes exactly the date-times of the kept form, with their value.
use Rattle.std.specs.Prelude.{None, Option, Some}
use Prim.Native.Nat.{ℕ, ◌≤◌}
use mathlib.Core.Path.{◌≡◌, refl, sym, ap, ◌∙◌}
use mathlib.Core.Logic.{◌↔◌, ◌⊎◌, ⊎_elim}
use mathlib.Core.Bool.{true, false, cond}
use native.Mathlib.Omega.{arith}
use lib.IntN.{ℤ, +ℤ_idr}
use borrow.Author.Tests.{le-leb}
use Rattle.base.specs.Bytes.{Bytes, all, both, is_digit}
use Rattle.base.proofs.Split.{by_bool, no}
use Rattle.integer.specs.Integer.{decimal, digits}
use Rattle.calendar.specs.Calendar.{leap, month_days}
use Rattle.stamp.specs.declared.Moment.{Moment}
use Rattle.stamp.specs.Stamp.{stamp_field, shaped, taken_moment, days_of, epoch, seconds_of, moment, accepted_moment, stamp}
use Rattle.stamp.proofs.Reading.{field_small}
use Rattle.stamp.proofs.Judging.{MomentRanges, moment_ranges}
use Rattle.stamp.proofs.Bounds.{Fields, moment_is}
use Rattle.rfc3339.specs.Rfc3339.{upper, lower, utc, east, west, DateTime, date_time, offset_minutes, Ranges, from_year0, since_epoch, fraction, IsDateTime}
use Rattle.rfc3339.specs.Form.{KeepsForm}
use Rattle.rfc3339.proofs.Texts.{Shape, moment_of, date_time_of, moment_back, unmarked, shape, spelled, unmarked_shape, written_moment}
use Rattle.rfc3339.proofs.Forms.{Unmarked, kept_unmarked, is_unmarked}

-- ---- the ranges and the value

-- the reader takes what is within the ranges, but for second 60
ranges_taken : (t : DateTime) → Ranges t → t.second ≤ 59 → taken_moment (moment_of t) ≡ true
unfolding taken_moment moment_of both
ranges_taken t r l =
    rw (
      le-leb 1 t.month r.month1,
      le-leb t.month 12 r.month12,
      le-leb 1 t.mday r.mday1,
      le-leb t.mday (month_days (leap t.year) t.month) r.mday,
      le-leb t.hour 23 r.hour,
      le-leb t.minute 59 r.minute,
      le-leb t.second 59 l,
    )

module _ (m : Moment) where
  -- and of a year of four digits nothing else
  taken_ranges : m.year ≤ 9999 → MomentRanges m → Ranges (date_time_of m)
  unfolding date_time_of
  taken_ranges y b =
      record {
        year = y;
        month1 = b.month1;
        month12 = b.month12;
        mday1 = b.day1;
        mday = b.day;
        hour = b.hour;
        minute = b.minute;
        second = omega arith;
        second60 = λ e. no (omega arith);
        secfrac = tt;
        offset = tt;
      }

  -- and it gives the seconds from the epoch
  seconds : seconds_of m ≡ since_epoch (date_time_of m)
  unfolding seconds_of days_of epoch since_epoch from_year0 offset_minutes date_time_of
  seconds = sym (+ℤ_idr (seconds_of m))

-- ---- the theorem

-- the answer at a text of the shape whose fields are a moment's numbers
answers : (s : Bytes) (m : Moment) → shaped s ≡ true → moment s ≡ Some m → stamp s ≡ cond (taken_moment m) (Some (seconds_of m)) None
unfolding stamp accepted_moment
answers s m h e = rw (h, e)

unread : (s : Bytes) → shaped s ≡ true → moment s ≡ None → stamp s ≡ None
unfolding stamp accepted_moment
unread s h e = rw (h, e)

unshaped : (s : Bytes) → shaped s ≡ false → stamp s ≡ None
unfolding stamp
unshaped s h = rw h

shape_kept : (s : Bytes) → Shape s → (m : Moment) → Fields s m → m.second ≤ 59 → KeepsForm s
unfolding stamp_field digits decimal all is_digit both
shape_kept s u m f l =
    record {
      bytes20 = u.long;
      capital_t = u.at10;
      capital_z = u.at19;
      no_second60 = λ e. let w : Some 60 ≡ Some m.second = ap digits (sym e) ∙ f.second in let q : 60 ≡ m.second = cc in omega arith;
    }

module _ (s : Bytes) (v : ℤ) where
  read_moment : Shape s → (m : Moment) → Fields s m → taken_moment m ≡ true → seconds_of m ≡ v → KeepsForm s × IsDateTime s v
  unfolding date_time_of fraction
  read_moment u m f l z =
      let b = moment_ranges m l in
      let r = taken_ranges m (field_small s 0 4 (omega arith) f.year) b in
      (shape_kept s u m f b.second, record { time = date_time_of m; ranges = r; text = spelled s u m f; seconds = sym z ∙ seconds m; whole = refl })

  read : stamp s ≡ Some v → KeepsForm s × IsDateTime s v
  read e =
      by_bool (shaped s)
      (λ h. go h (moment s) refl)
      (λ h. let w : None ≡ Some v = sym (unshaped s h) ∙ e in no (cc))
    where
      go : shaped s ≡ true → (o : Option Moment) → moment s ≡ o → KeepsForm s × IsDateTime s v
      go h None p = let w : None ≡ Some v = sym (unread s h p) ∙ e in no (cc)
      go h (Some m) p =
          let a = answers s m h p in
          by_bool (taken_moment m)
          (λ l. let w : Some (seconds_of m) ≡ Some v = sym (rw l at a) ∙ e in read_moment (shape s h) m (moment_is s m p) l (cc))
          (λ l. let w : None ≡ Some v = sym (rw l at a) ∙ e in no (cc))

-- a date-time with nothing but its numbers is taken, with its value
unmarked_taken : (t : DateTime) → Ranges t → Unmarked t → stamp (date_time t) ≡ Some (since_epoch t)
unmarked_taken t r p =
    let u : t ≡ unmarked t = is_unmarked t p in
    let h : shaped (date_time t) ≡ true = ap (λ d. shaped (date_time d)) u ∙ unmarked_shape t in
    let z : seconds_of (moment_of t) ≡ since_epoch t = seconds (moment_of t) ∙ ap since_epoch (moment_back t ∙ sym u) in
    answers (date_time t) (moment_of t) h (written_moment t r) ∙ rw (ranges_taken t r p.second, z)

module _ (s : Bytes) (v : ℤ) where
  -- A date-time of section 5.6 that keeps the form is read as its value.
  pub accepts : KeepsForm s → IsDateTime s v → stamp s ≡ Some v
  accepts k i =
      let p : Unmarked i.time = kept_unmarked i.time i.ranges (rw (← i.text) k) in
      rw (i.text, i.seconds) (unmarked_taken i.time i.ranges p)

  -- A text is read, as v, exactly when it keeps the form and is a date-time of section 5.6 whose value is v.
  pub exactly : (stamp s ≡ Some v) ↔ (KeepsForm s × IsDateTime s v)
  exactly = (read s v, λ (k, i). accepts k i)

  -- So on texts that keep the form the reader and the RFC agree.
  pub on_kept : KeepsForm s → (stamp s ≡ Some v) ↔ IsDateTime s v
  on_kept k = (λ e. (exactly.0 e).1, accepts k)

-- ---- what RFC 3339 has and the reader refuses

module _ (t : DateTime) (r : Ranges t) where
  -- Every date-time that does not keep the form: a lower-case letter, a fraction, a numeric offset, second 60.
  pub unkept_refused : (KeepsForm (date_time t) → ⊥) → stamp (date_time t) ≡ None
  unkept_refused n = go (stamp (date_time t)) refl
    where
      go : (o : Option ℤ) → stamp (date_time t) ≡ o → o ≡ None
      go None e = refl
      go (Some v) e = absurd (n ((exactly (date_time t) v).0 e).0)

  marks_refused : (Unmarked t → ⊥) → stamp (date_time t) ≡ None
  marks_refused n = unkept_refused (λ k. n (kept_unmarked t r k))

  -- By class:
  pub no_lower_t : t.separator ≡ lower → stamp (date_time t) ≡ None
  no_lower_t e = marks_refused (λ p. no (cc))

  pub no_lower_z : t.offset ≡ utc lower → stamp (date_time t) ≡ None
  no_lower_z e = marks_refused (λ p. no (cc))

  pub no_fraction : (digits : Bytes) → t.secfrac ≡ Some digits → stamp (date_time t) ≡ None
  no_fraction digits e = marks_refused (λ p. no (cc))

  pub no_numoffset : (h m : ℕ) → (t.offset ≡ east h m) ⊎ (t.offset ≡ west h m) → stamp (date_time t) ≡ None
  no_numoffset h m e = marks_refused (λ p. ⊎_elim (λ q. no (cc)) (λ q. no (cc)) e)

  pub no_leap_second : t.second ≡ 60 → stamp (date_time t) ≡ None
  no_leap_second e = marks_refused (λ p. no (omega arith))

  -- Every other date-time is taken, with its value.
  pub others_taken : t.separator ≡ upper → t.secfrac ≡ None → t.offset ≡ utc upper → (t.second ≡ 60 → ⊥) → stamp (date_time t) ≡ Some (since_epoch t)
  others_taken c o f n = unmarked_taken t r (record { separator = c; second = omega arith; secfrac = o; offset = f })
