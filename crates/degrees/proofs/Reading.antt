-- What a coordinate in degrees is read as: each answer exactly when its condition holds.
use Rattle.std.specs.Prelude.{None, Option, Some, Err, Ok, Result}
use Prim.Native.Nat.{◌+◌, ◌*◌, ◌<◌, ◌≤◌}
use mathlib.Core.Path.{◌≡◌, refl, sym, ◌∙◌, ap}
use mathlib.Core.Logic.{◌↔◌}
use native.Mathlib.Omega.{arith}
use lib.Dec.{leb}
use lib.IntN.{ℤ, nat_abs, ◌-ℤ◌}
use borrow.Author.Tests.{leb-true, leb-false, le-leb, lt-leb}
use Rattle.base.specs.Bytes.{Bytes}
use Rattle.base.proofs.Split.{no, by_bool}
use Rattle.degrees.specs.declared.Axis.{Axis}
use Rattle.degrees.specs.declared.Axis.TheVariants.{Latitude, Longitude}
use Rattle.degrees.specs.declared.DegreesError.{DegreesError}
use Rattle.degrees.specs.declared.DegreesError.TheVariants.{NotDegrees, OutOfRange}
use Rattle.degrees.specs.Degrees.{exact_degrees}
use Rattle.degrees.specs.Nearest.{nearest, most_degrees, within_degrees, degrees_or, read_degrees}
use Rattle.degrees.proofs.Texts.{DegreesWritten, exactly, not_written}
use Rattle.degrees.proofs.Rounding.{nearest_apart, nearest_within}

module _ (a : Axis) where
  -- ---- what is read of exact degrees

  within : (x : ℤ) → nat_abs x ≤ most_degrees a → within_degrees a x ≡ Ok (nearest x)
  within x h = rw (le-leb (nat_abs x) (most_degrees a) h)

  beyond : (x : ℤ) → most_degrees a < nat_abs x → within_degrees a x ≡ Err OutOfRange
  beyond x h = rw (lt-leb (nat_abs x) (most_degrees a) h)

  -- by the exact degrees
  pub data DegreesRead : Option ℤ → Result ℤ DegreesError → Type 0 where
    not_degrees : DegreesRead None (Err NotDegrees)
    out_of_range : {x : ℤ} → most_degrees a < nat_abs x → DegreesRead (Some x) (Err OutOfRange)
    result : {x : ℤ} → nat_abs x ≤ most_degrees a → DegreesRead (Some x) (Ok (nearest x))

  read_or : (o : Option ℤ) → DegreesRead o (degrees_or a o)
  read_or None = not_degrees
  read_or (Some x) =
      by_bool (leb (nat_abs x) (most_degrees a))
      (λ t. let h = leb-true (nat_abs x) (most_degrees a) t in rw (within x h) (result h))
      (λ t. let h = leb-false (nat_abs x) (most_degrees a) t in rw (beyond x h) (out_of_range h))

  pub degrees_read : (s : Bytes) → DegreesRead (exact_degrees s) (read_degrees a s)
  unfolding read_degrees
  degrees_read s = read_or (exact_degrees s)

  -- an answer, by what it is read of
  ok_is : {o : Option ℤ} {q : Result ℤ DegreesError} (r : ℤ) → DegreesRead o q → q ≡ Ok r → (x : ℤ) × ((o ≡ Some x) × (nat_abs x ≤ most_degrees a) × (r ≡ nearest x))
  ok_is r not_degrees e = no (cc)
  ok_is r (out_of_range h) e = no (cc)
  ok_is r (result {x = x} h) e = (x, (refl, h, cc))

  range_is : {o : Option ℤ} {q : Result ℤ DegreesError} → DegreesRead o q → q ≡ Err OutOfRange → (x : ℤ) × ((o ≡ Some x) × (most_degrees a < nat_abs x))
  range_is not_degrees e = no (cc)
  range_is (out_of_range {x = x} h) e = (x, (refl, h))
  range_is (result h) e = no (cc)

  not_is : {o : Option ℤ} {q : Result ℤ DegreesError} → DegreesRead o q → q ≡ Err NotDegrees → o ≡ None
  not_is not_degrees e = refl
  not_is (out_of_range h) e = no (cc)
  not_is (result h) e = no (cc)

  written_reads : (s : Bytes) {x : ℤ} → DegreesWritten s x → read_degrees a s ≡ within_degrees a x
  unfolding read_degrees
  written_reads s {x} w = ap (degrees_or a) ((exactly s x).1 w)

  -- ---- each answer, by what is written

  pub read_ok : (s : Bytes) (r : ℤ) → (read_degrees a s ≡ Ok r) ↔ ((x : ℤ) × (DegreesWritten s x × (nat_abs x ≤ most_degrees a) × (r ≡ nearest x)))
  read_ok s r = (
    λ e. let t = ok_is r (degrees_read s) e in (t.0, ((exactly s t.0).0 t.1.0, t.1.1, t.1.2)),
    λ t. written_reads s t.1.0 ∙ within t.0 t.1.1 ∙ ap Ok (sym t.1.2),
  )

  -- "the exact degrees may not pass 90 or 180"
  pub read_range : (s : Bytes) → (read_degrees a s ≡ Err OutOfRange) ↔ ((x : ℤ) × (DegreesWritten s x × (most_degrees a < nat_abs x)))
  read_range s = (
    λ e. let t = range_is (degrees_read s) e in (t.0, ((exactly s t.0).0 t.1.0, t.1.1)),
    λ t. written_reads s t.1.0 ∙ beyond t.0 t.1.1,
  )

  -- "text not of this form"
  pub read_not : (s : Bytes) → (read_degrees a s ≡ Err NotDegrees) ↔ ((x : ℤ) → DegreesWritten s x → ⊥)
  unfolding read_degrees
  read_not s = (
    λ e. (not_written s).0 (not_is (degrees_read s) e),
    λ n. ap (degrees_or a) ((not_written s).1 n),
  )

-- "If two accepted texts differ by d units exactly, their results differ by at most d + 1": d is a fraction, so both sides are in units of 1e-12 degree
pub results_apart : (a b : Axis) (s t : Bytes) {q r x y : ℤ} → read_degrees a s ≡ Ok q → read_degrees b t ≡ Ok r → DegreesWritten s x → DegreesWritten t y
    → 100000 * nat_abs (q -ℤ r) ≤ nat_abs (x -ℤ y) + 100000
results_apart a b s t {q} {r} {x} {y} e f v w =
    let c = result_of a s e v in
    let d = result_of b t f w in
    rw (c, d) (nearest_apart x y)
  where
    result_of : (a : Axis) (s : Bytes) {q x : ℤ} → read_degrees a s ≡ Ok q → DegreesWritten s x → q ≡ nearest x
    result_of a s {q} {x} e v =
        let g = (read_ok a s q).0 e in
        let u : Some g.0 ≡ Some x = sym ((exactly s g.0).1 g.1.0) ∙ (exactly s x).1 v in
        let k : g.0 ≡ x = cc in
        g.1.2 ∙ ap nearest k

-- a result is within 90 or 180 degrees too
pub result_within : (a : Axis) (s : Bytes) {r : ℤ} → read_degrees a s ≡ Ok r → 100000 * nat_abs r ≤ most_degrees a
result_within a s {r} e = let g = (read_ok a s r).0 e in by_axis a g.0 g.1.1 g.1.2
  where
    by_axis : (a : Axis) (x : ℤ) → nat_abs x ≤ most_degrees a → r ≡ nearest x → 100000 * nat_abs r ≤ most_degrees a
    by_axis Latitude x h k = rw k (omega (arith, nearest_within 900000000 x h))
    by_axis Longitude x h k = rw k (omega (arith, nearest_within 1800000000 x h))
