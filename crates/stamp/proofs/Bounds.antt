-- A stamp's seconds fit 64 bits, so its answer gives them back.
use Rattle.std.specs.Prelude.{None, Option, Some, option_map}
use Rattle.base.specs.Options.{bind}
use Prim.Native.Nat.{ℕ, ◌+◌, ◌*◌, ◌≤◌}
use mathlib.Core.Path.{◌≡◌, refl}
use native.Mathlib.Omega.{arith}
use lib.IntN.{ℤ}
use mir.Syntax.{w64}
use mir.Val.{Fits, SFits, of_z, to_z}
use mir.Facts.{Fits-of_z, to_z-of_z}
use borrow.Author.Tests.{lt-ltb, le-ltb}
use Rattle.base.specs.Bytes.{Bytes}
use Rattle.base.proofs.Split.{by_lt, by_bool, no}
use Rattle.calendar.specs.Calendar.{leap}
use Rattle.calendar.proofs.Months.{month_bounds}
use Rattle.stamp.specs.Stamp.{stamp_field, shaped, moment, taken_moment, days_of, seconds_of, accepted_moment, stamp, stamp_of}
use Rattle.stamp.specs.declared.Moment.{Moment}
use Rattle.stamp.proofs.Reading.{field_small}
use Rattle.stamp.proofs.Judging.{MomentRanges, moment_ranges}
use Rattle.stamp.proofs.Counting.{epoch_is, days_high}

going : {A B : Type 0} (o : Option A) (f : A → Option B) {y : B} → bind o f ≡ Some y → (x : A) × ((o ≡ Some x) × (f x ≡ Some y))
unfolding bind
going None f e = no (cc)
going (Some x) f e = (x, (refl, e))

-- the fields of a moment that is read
pub record Fields (s : Bytes) (t : Moment) : Type 0 where
  pub year : stamp_field s 0 4 ≡ Some t.year
  pub month : stamp_field s 5 2 ≡ Some t.month
  pub day : stamp_field s 8 2 ≡ Some t.day
  pub hour : stamp_field s 11 2 ≡ Some t.hour
  pub minute : stamp_field s 14 2 ≡ Some t.minute
  pub second : stamp_field s 17 2 ≡ Some t.second

pub moment_is : (s : Bytes) (t : Moment) → moment s ≡ Some t → Fields s t
unfolding moment
moment_is s t e =
    let y = going _ _ e in
    let m = going _ _ y.1.1 in
    let d = going _ _ m.1.1 in
    let h = going _ _ d.1.1 in
    let i = going _ _ h.1.1 in
    let x = going _ _ i.1.1 in
    let q : Some (record { year = y.0; month = m.0; day = d.0; hour = h.0; minute = i.0; second = x.0 }) ≡ Some t = x.1.1 in
    record { year = cc; month = cc; day = cc; hour = cc; minute = cc; second = cc }

-- seconds of a year up to 9999 are near the epoch
seconds_fit : (t : Moment) → t.year ≤ 9999 → MomentRanges t → SFits w64 (seconds_of t)
unfolding seconds_of
seconds_fit t y b =
    let month = month_bounds (leap t.year) t.month in
    let high = days_high t in
    rw epoch_is
    (by_lt (days_of t * 86400 + t.hour * 3600 + t.minute * 60 + t.second) 62167219200
    (λ l. rw (lt-ltb _ _ l) (record { sfits = omega arith }))
    (λ l. rw (le-ltb _ _ l) (record { sfits = omega arith })))

-- a moment that is read and taken: its seconds
accepted_fits : (s : Bytes) (o : Option Moment) {z : ℤ} → moment s ≡ o → accepted_moment o ≡ Some z → SFits w64 z
unfolding accepted_moment
accepted_fits s None p q = no (cc)
accepted_fits s (Some t) {z} p q =
    by_bool (taken_moment t)
    (λ h. let v : Some (seconds_of t) ≡ Some z = rw h at q in
    let e : z ≡ seconds_of t = cc in
    rw e (seconds_fit t (field_small s 0 4 (omega arith) (moment_is s t p).year) (moment_ranges t h)))
    (λ h. let v : None ≡ Some z = rw h at q in no (cc))

pub stamp_fits : (s : Bytes) {z : ℤ} → stamp s ≡ Some z → SFits w64 z
unfolding stamp
stamp_fits s {z} e =
    by_bool (shaped s)
    (λ h. let v : accepted_moment (moment s) ≡ Some z = rw h at e in accepted_fits s (moment s) refl v)
    (λ h. let v : None ≡ Some z = rw h at e in no (cc))

-- ---- what an answer says

answer_at : (o : Option ℤ) {b : ℕ} → option_map (of_z w64) o ≡ Some b → (z : ℤ) × ((o ≡ Some z) × (of_z w64 z ≡ b))
answer_at None e = no (cc)
answer_at (Some z) e = (z, (refl, cc))

pub stamp_at : (s : Bytes) {b : ℕ} → stamp_of s ≡ Some b → (stamp s ≡ Some (to_z w64 b)) × Fits w64 b
unfolding stamp_of
stamp_at s {b} e =
    let a = answer_at (stamp s) e in
    let f = stamp_fits s a.1.0 in
    (rw (← a.1.1, to_z-of_z f) a.1.0, rw a.1.1 at (Fits-of_z f))

pub stamp_of_lem : (s : Bytes) {z : ℤ} → stamp s ≡ Some z → stamp_of s ≡ Some (of_z w64 z)
unfolding stamp_of
stamp_of_lem s e = rw e

pub stamp_not : (s : Bytes) → stamp_of s ≡ None → stamp s ≡ None
unfolding stamp_of
stamp_not s e = go (stamp s) e
  where
    go : (o : Option ℤ) → option_map (of_z w64) o ≡ None → o ≡ None
    go None q = refl
    go (Some z) q = no (cc)
