-- The nearest 1e-7 degree is what the sentence asks, and nothing else is; and results lie no further apart than their texts and one unit.
use Prim.Native.Nat.{ℕ, ◌+◌, ◌*◌, ◌≤◌}
use mathlib.Core.Path.{◌≡◌, sym}
use mathlib.Core.Logic.{◌↔◌}
use native.Mathlib.Omega.{arith}
use lib.IntN.{ℤ, pos, negsuc, nat_abs, ◌*ℤ◌, ◌-ℤ◌}
use Rattle.std.proofs.lemmas.Int.{ints}
use Rattle.degrees.specs.Nearest.{nearest, far_from, IsNearest}

-- at most half a unit lies between
pub nearest_half : (x : ℤ) → 2 * far_from x (nearest x) ≤ 100000
unfolding nearest
nearest_half (pos n) = omega (arith, ints)
nearest_half (negsuc n) = omega (arith, ints)

near : (x q : ℤ) → far_from x (nearest x) ≤ far_from x q
unfolding nearest
near (pos n) q = omega (arith, ints)
near (negsuc n) q = omega (arith, ints)

away : (x q : ℤ) → far_from x q ≡ far_from x (nearest x) → nat_abs q ≤ nat_abs (nearest x)
unfolding nearest
away (pos n) q e = omega (arith, ints)
away (negsuc n) q e = omega (arith, ints)

pub nearest_is : (x : ℤ) → IsNearest x (nearest x)
nearest_is x = record { near = near x; away = away x }

-- two numbers that are equally near and equally far from zero are one
one_of : (x q : ℤ) → far_from x q ≡ far_from x (nearest x) → nat_abs q ≡ nat_abs (nearest x) → q ≡ nearest x
unfolding nearest
one_of (pos n) q e f = omega (arith, ints)
one_of (negsuc n) q e f = omega (arith, ints)

-- "the nearest 1e-7 degree, ties away from zero" is one number
pub nearest_only : (x r : ℤ) → IsNearest x r ↔ (r ≡ nearest x)
nearest_only x r = (
  λ h.
      let e : far_from x r ≡ far_from x (nearest x) = omega (arith, h.near (nearest x), near x r) in
      let f : nat_abs r ≡ nat_abs (nearest x) = omega (arith, away x r e, h.away (nearest x) (sym e)) in
      one_of x r e f,
  λ e. rw e (nearest_is x),
)

-- "If two accepted texts differ by d units exactly, their results differ by at most d + 1": d is a fraction, so both sides are in units of 1e-12 degree
pub nearest_apart : (x y : ℤ) → 100000 * nat_abs (nearest x -ℤ nearest y) ≤ nat_abs (x -ℤ y) + 100000
nearest_apart x y = omega (arith, ints, nearest_half x, nearest_half y)

-- whole units stay
pub nearest_whole : (z : ℤ) → nearest (pos 100000 *ℤ z) ≡ z
nearest_whole z = sym ((nearest_only (pos 100000 *ℤ z) z).0 (record { near = λ q. omega (arith, ints); away = λ q e. omega (arith, ints) }))

-- what is within whole units is so when it is rounded
pub nearest_within : (k : ℕ) (x : ℤ) → nat_abs x ≤ 100000 * k → nat_abs (nearest x) ≤ k
unfolding nearest
nearest_within k (pos n) h = omega arith
nearest_within k (negsuc n) h = omega (arith, ints)
