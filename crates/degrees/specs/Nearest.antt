-- Document 02, request 1: "The result is the nearest 1e-7 degree, ties away from zero, worked out in whole numbers; the exact degrees may not pass 90 or 180."
use Rattle.std.specs.Prelude.{ℕ, suc, ◌+◌, ◌*◌, ◌/◌, ◌^◌, ◌≡◌, ◌≤◌, cond, leb, ℤ, pos, negsuc, neg_ℤ, nat_abs, ◌*ℤ◌, ◌-ℤ◌, None, Option, Some, Err, Ok, Result}
use Rattle.base.specs.Bytes.{Bytes}
use Rattle.degrees.specs.Degrees.{exact_degrees}
use Rattle.degrees.specs.declared.Axis.{Axis}
use Rattle.degrees.specs.declared.Axis.TheVariants.{Latitude, Longitude}
use Rattle.degrees.specs.declared.DegreesError.{DegreesError}
use Rattle.degrees.specs.declared.DegreesError.TheVariants.{NotDegrees, OutOfRange}

-- ---- the nearest 1e-7 degree; one is 100,000 of 1e-12 degree

-- half of one and more counts as one
abbrev pub nearest_size : ℕ → ℕ
nearest_size n = (n + 50000) / 100000

-- "ties away from zero": the size is rounded, and the sign stays
unfoldable pub nearest : ℤ → ℤ
nearest (pos n) = pos (nearest_size n)
nearest (negsuc n) = neg_ℤ (pos (nearest_size (suc n)))

-- ---- a coordinate's text

-- "90 or 180", in units of 1e-12 degree
abbrev pub most_degrees : Axis → ℕ
most_degrees Latitude = 90 * 10 ^ 12
most_degrees Longitude = 180 * 10 ^ 12

-- the exact degrees are tested, not the nearest 1e-7 degree
abbrev pub within_degrees : Axis → ℤ → Result ℤ DegreesError
within_degrees a x = cond (leb (nat_abs x) (most_degrees a)) (Ok (nearest x)) (Err OutOfRange)

abbrev pub degrees_or : Axis → Option ℤ → Result ℤ DegreesError
degrees_or a None = Err NotDegrees
degrees_or a (Some x) = within_degrees a x

unfoldable pub read_degrees : Axis → Bytes → Result ℤ DegreesError
read_degrees a s = degrees_or a (exact_degrees s)

-- ---- what the sentence asks of a whole number of 1e-7 degree

-- how far it is from the exact degrees, in units of 1e-12 degree
abbrev pub far_from : ℤ → ℤ → ℕ
far_from x r = nat_abs (pos 100000 *ℤ r -ℤ x)

-- "the nearest 1e-7 degree, ties away from zero": none is nearer, and none that is as near is further from zero
pub record IsNearest (x r : ℤ) : Type 0 where
  pub near : (q : ℤ) → far_from x r ≤ far_from x q
  pub away : (q : ℤ) → far_from x q ≡ far_from x r → nat_abs q ≤ nat_abs r
