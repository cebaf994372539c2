-- What the steps of the code on ids and ranks say: an id by its sign, and the ends of a range.
use Prim.Native.Nat.{ℕ, zero, suc, ◌+◌, ◌-◌, ◌<◌, ◌≤◌, ◌^◌}
use mathlib.Core.Path.{◌≡◌, refl, sym, ◌∙◌, ap}
use mathlib.Core.Bool.{true, false}
use native.Mathlib.Omega.{arith}
use lib.IntN.{ℤ, pos, negsuc, nat_abs}
use lib.Signed.{le_z, ◌<ℤ◌, ◌≤ℤ◌}
use mir.Syntax.{w64}
use mir.Val.{Fits, of_z, to_z}
use mir.Facts.{to_z-of_z, to_z_pos, to_z-neg}
use lib.Dec.{leb-zero, leb-suc-zero}
use borrow.Author.Tests.{lt-ltb}
use Rattle.std.proofs.lemmas.Int.{ints}
use Rattle.std.specs.Int.{int_min}
use Rattle.osm_id.specs.Order.{osm_key_of, rank, id_of, first_key, last_key}
use Rattle.osm_id.proofs.Orders.{id_negative, id_positive, id_fits}

-- ---- an id by its sign

pub key_zero : (z : ℤ) → z ≡ pos 0 → osm_key_of z ≡ record { class = 0; magnitude = nat_abs z }
unfolding osm_key_of
key_zero z e = rw e

pub key_negative : (z : ℤ) → z <ℤ pos 0 → osm_key_of z ≡ record { class = 1; magnitude = nat_abs z }
unfolding osm_key_of
key_negative (pos n) h = absurd (omega (arith, ints))
key_negative (negsuc n) h = refl

pub key_positive : (z : ℤ) → pos 0 <ℤ z → osm_key_of z ≡ record { class = 2; magnitude = nat_abs z }
unfolding osm_key_of
key_positive (pos zero) h = absurd h.lt
key_positive (pos (suc n)) h = refl
key_positive (negsuc n) h = absurd h.lt

pub rank_low : (z : ℤ) → z ≤ℤ pos 0 → rank z ≡ nat_abs z
unfolding rank
rank_low (pos zero) h = refl
rank_low (pos (suc n)) h = absurd (omega (arith, ints))
rank_low (negsuc n) h = refl

pub rank_high : (z : ℤ) → pos 0 <ℤ z → rank z ≡ 2 ^ 63 + nat_abs z
unfolding rank
rank_high (pos zero) h = absurd h.lt
rank_high (pos (suc n)) h = refl
rank_high (negsuc n) h = absurd h.lt

-- ---- the ends of a range

pub first_natural : (lo hi : ℤ) → le_z (pos 0) lo ≡ true → osm_key_of lo ≡ first_key lo hi
unfolding first_key
first_natural lo hi t = rw t

pub first_other : (lo hi : ℤ) → le_z (pos 0) lo ≡ false → osm_key_of (int_min hi (pos 0)) ≡ first_key lo hi
unfolding first_key
first_other lo (pos zero) t = rw t
first_other lo (pos (suc n)) t = rw (t, leb-suc-zero n, lt-ltb 0 (suc n) (omega arith))
first_other lo (negsuc n) t = rw t

pub last_least : (lo hi : ℤ) → lo <ℤ pos 0 → le_z hi (pos 0) ≡ true → osm_key_of lo ≡ last_key lo hi
unfolding last_key
last_least (pos n) hi h t = absurd (omega (arith, ints))
last_least (negsuc n) hi h t = rw t

pub last_natural : (lo hi : ℤ) → pos 0 ≤ℤ lo → osm_key_of hi ≡ last_key lo hi
unfolding last_key
last_natural (pos n) hi h = rw (leb-zero n)
last_natural (negsuc n) hi h = absurd h.le

pub last_positive : (lo hi : ℤ) → le_z hi (pos 0) ≡ false → osm_key_of hi ≡ last_key lo hi
unfolding last_key
last_positive (pos n) hi t = rw (leb-zero n)
last_positive (negsuc n) hi t = rw t

-- ---- the id of a rank, which the code makes by its bits

module _ {r : ℕ} where
  pub negative_bits : (r ≡ 0 → ⊥) → r ≤ 2 ^ 63 → to_z w64 (2 ^ 64 - 1 - (r - 1)) ≡ id_of r
  negative_bits n h =
      let d : 2 ^ 64 - 1 - (r - 1) ≡ 2 ^ 64 - suc (r - 1) = omega arith in
      ap (to_z w64) d ∙ to_z-neg w64 (r - 1) (omega arith) ∙ sym (id_negative n h)

  module _ (f : Fits w64 r) where
    pub positive_bits : 2 ^ 63 < r → to_z w64 (r - 2 ^ 63) ≡ id_of r
    positive_bits h = to_z_pos w64 (omega (arith, f.fits)) ∙ sym (id_positive h)

    pub result_is : {z : ℤ} → z ≡ id_of r → to_z w64 (of_z w64 z) ≡ id_of r
    result_is e = rw e (to_z-of_z (id_fits f))
