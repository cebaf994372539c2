-- A signed number and its bits, at any width: the sign is whether the bits lie below the half of all, and the bits are those of one number.
use Prim.Native.Nat.{ℕ, suc, ◌-◌, ◌<◌, ◌≤◌, ◌^◌}
use mathlib.Core.Path.{◌≡◌, refl, sym, ◌∙◌, ap}
use mathlib.Core.Bool.{Bool, true, false}
use native.Mathlib.Omega.{arith}
use lib.Dec.{T}
use lib.IntN.{ℤ, pos, negsuc, nat_abs}
use lib.Signed.{lt_z, mag, non_neg}
use mir.Syntax.{Width}
use mir.Val.{Fits, SFits, to_z, of_z, bits, hbits}
use mir.ValLaws.{pow-bits, half_full}
use mir.Facts.{to_z-of_z, to_z_pos}
use borrow.Author.Tests.{ltb-true, le-ltb}
use Rattle.base.proofs.Split.{clash}

module _ (w : Width) where
  -- the complement of the complement
  pub twice : {n : ℕ} → Fits w n → 2 ^ bits w - 1 - (2 ^ bits w - 1 - n) ≡ n
  twice f = omega (arith, f.fits)

  -- bits below the half are cast to the unsigned type, and keep their number
  pub cast_low : {n : ℕ} → n < 2 ^ hbits w → T (non_neg (to_z w n)) × Fits w (nat_abs (to_z w n))
  cast_low h = rw (to_z_pos w h) (tt, record { fits = half_full w h })

  pub size_low : {n : ℕ} → n < 2 ^ hbits w → nat_abs (to_z w n) ≡ n
  size_low h = ap nat_abs (to_z_pos w h)

  -- the bits of a negative number lie in the upper half, those of another in the lower
  pub upper : (z : ℤ) → SFits w z → lt_z z (pos 0) ≡ true → 2 ^ hbits w ≤ of_z w z
  upper (pos n) f t = let h : n < 0 = ltb-true n 0 t in absurd (omega arith)
  upper (negsuc n) f t = omega (arith, f.sfits, pow-bits w)

  pub lower : (z : ℤ) → SFits w z → lt_z z (pos 0) ≡ false → of_z w z < 2 ^ hbits w
  lower (pos n) f t = f.sfits
  lower (negsuc n) f t = clash refl t

  module _ {z : ℤ} (f : SFits w z) where
    -- the same of the test that the code makes; the complement of the upper half is the lower
    pub below_zero : lt_z (to_z w (of_z w z)) (pos 0) ≡ true → 2 ^ bits w - 1 - of_z w z < 2 ^ hbits w
    below_zero t = omega (arith, upper z f (rw (to_z-of_z f) at t), pow-bits w)

    pub not_below : lt_z (to_z w (of_z w z)) (pos 0) ≡ false → of_z w z < 2 ^ hbits w
    not_below t = lower z f (rw (to_z-of_z f) at t)

    -- which number the bits are of
    pub of_low : of_z w z < 2 ^ hbits w → z ≡ pos (of_z w z)
    of_low h = sym (to_z-of_z f) ∙ to_z_pos w h

    pub of_high : 2 ^ hbits w ≤ of_z w z → z ≡ negsuc (2 ^ bits w - suc (of_z w z))
    of_high h = sym (to_z-of_z f) ∙ rw (le-ltb (of_z w z) (2 ^ hbits w) h)

  -- of a number in a field its bound is known: it is what is read back from its bits, and so a test of two such numbers is a test of them
  pub held : (z : ℤ) → mag z < 2 ^ hbits w → to_z w (of_z w z) ≡ z
  held z h = to_z-of_z (record { sfits = h })

  pub compared : (x y : ℤ) → mag x < 2 ^ hbits w → mag y < 2 ^ hbits w → {t : Bool} → lt_z (to_z w (of_z w x)) (to_z w (of_z w y)) ≡ t → lt_z x y ≡ t
  compared x y h k e = rw (held x h, held y k) at e

-- a number that is handed on as its bits is read back
pub bits_back : {w : Width} {z : ℤ} {n : ℕ} → SFits w z → n ≡ of_z w (to_z w (of_z w z)) → to_z w n ≡ z
bits_back f e = rw (e, to_z-of_z f, to_z-of_z f)
