-- Where n more from a place on end: what the answer tells.
use Rattle.std.specs.Prelude.{None, Some}
use Prim.Native.Nat.{ℕ, ◌+◌, ◌≤◌, ◌<◌}
use mathlib.Core.Path.{◌≡◌, sym, ◌∙◌}
use mathlib.Core.Bool.{cond}
use lib.Dec.{leb}
use borrow.Author.Tests.{le-leb, lt-leb}
use Rattle.base.proofs.Split.{by_le, no}

-- n more from a place on lie within a length, and that is where they end
pub record Within (at n len end : ℕ) : Type 0 where
  pub fits : at + n ≤ len
  pub is : end ≡ at + n

module _ (at n len : ℕ) where
  pub lies_within : (end : ℕ) → Some end ≡ cond (leb (at + n) len) (Some (at + n)) None → Within at n len end
  lies_within end e =
      by_le (at + n) len
      (λ l. let x : Some end ≡ Some (at + n) = rw (le-leb (at + n) len l) at e in record { fits = l; is = cc })
      (λ l. let x : Some end ≡ None = rw (lt-leb (at + n) len l) at e in no cc)

  pub runs_past : None ≡ cond (leb (at + n) len) (Some (at + n)) None → len < at + n
  runs_past e = by_le (at + n) len (λ l. let x : None ≡ Some (at + n) = rw (le-leb (at + n) len l) at e in no cc) (λ l. l)
