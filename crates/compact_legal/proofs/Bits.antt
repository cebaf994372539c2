-- The code's tests of bits, as the definitions' tests of numbers.
use Prim.Native.Nat.{ℕ, suc, ◌-◌, ◌^◌, ◌<◌, ◌≤◌}
use mathlib.Core.Path.{◌≡◌, sym}
use mathlib.Core.Bool.{Bool, ◌&&◌, ◌||◌}
use native.Mathlib.Nat.{one-le-pow}
use native.Mathlib.Omega.{arith}
use lib.Dec.{ltb, leb, eqb}
use lib.IntN.{pos, nat_abs}
use mir.Syntax.{Width, w32}
use mir.Val.{to_z, hbits}
use borrow.Author.Tests.{lt-ltb, le-ltb, ne_eqb, ltb-true, leb-true, le-leb}
use Rattle.base.specs.Bytes.{both, either}
use Rattle.base.proofs.Tests.{and_both, or_either}
use Rattle.base.proofs.Split.{by_lt, same_test}
use Rattle.osm_id.specs.Order.{same_id}

-- the tests of metadata
pub meta_tests : (small present none versioned version time change uid named user held : Bool)
    → ((small && (present || none)) && ((versioned || version) && ((present || (time && (change && uid))) && ((named || user) && held))))
    ≡ both (both small (either present none)) (both (either versioned version) (both (either present (both time (both change uid))) (both (either named user) held)))
meta_tests small present none versioned version time change uid named user held = simp (and_both, or_either)

-- a signed number is 0 where its bits are
pub zero_bits : (w : Width) (v : ℕ) → same_id (to_z w v) (pos 0) ≡ eqb v 0
unfolding same_id
zero_bits w v =
    by_lt v (2 ^ hbits w) (λ l. rw (lt-ltb v (2 ^ hbits w) l)) (λ l. rw (le-ltb v (2 ^ hbits w) l) (sym (ne_eqb v 0 (λ e. omega (arith, one-le-pow (hbits w) 2 (omega arith))))))

-- a number of 32 bits within a bound of 0
pub within_low : (v n : ℕ) → v < 2 ^ 31 → leb v n ≡ leb (nat_abs (to_z w32 v)) n
within_low v n h = rw (lt-ltb v (2 ^ 31) h)

pub within_high : (v n : ℕ) → v < 2 ^ 32 → 2 ^ 31 ≤ v → ltb (2 ^ 32 - 1 - v) n ≡ leb (nat_abs (to_z w32 v)) n
within_high v n f h =
    rw (le-ltb v (2 ^ 31) h)
    (same_test _ _ (λ t. le-leb (suc (2 ^ 32 - suc v)) n (omega (arith, ltb-true (2 ^ 32 - 1 - v) n t))) (λ t. lt-ltb (2 ^ 32 - 1 - v) n (omega (arith, leb-true (suc (2 ^ 32 - suc v)) n t))))
