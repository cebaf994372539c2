-- Reading from the rest of the bytes: what stands there stands so much further on among all of them.
use Prim.Native.Nat.{ℕ, ◌+◌, ◌-◌, ◌≤◌, ◌<◌, min}
use mathlib.Core.Path.{◌≡◌, sym, ◌∙◌}
use native.Mathlib.Omega.{arith}
use lib.ListN.{length, take, drop, length-drop, drop_of_length-le}
use lib.Seq.{drop-drop, take_all}
use Rattle.base.specs.Bytes.{Bytes}
use Rattle.base.proofs.Split.{by_le}
use Rattle.little.specs.Little.{value_at}

rest_is : (s : Bytes) (at m : ℕ) → m ≡ min at (length s) → take (length s - m) (drop m s) ≡ drop at s
rest_is s at m e =
    take_all (length s - m) (drop m s) (omega (arith, length-drop m s))
    ∙ by_le at (length s)
    (λ l. let z : m ≡ at = omega arith in rw z)
    (λ l. let z : m ≡ length s = omega arith in rw (z, drop_of_length-le s {i = at} (omega arith), drop_of_length-le s {i = length s} (omega arith)))

pub number_in_rest : (n : ℕ) (s : Bytes) (at m i : ℕ) → m ≡ min at (length s) → value_at n (take (length s - m) (drop m s)) i ≡ value_at n s (at + i)
unfolding value_at
number_in_rest n s at m i e = rw (rest_is s at m e, drop-drop)
