-- The rule of the table of classes. One test, which antt computes over the code's own table (walk, `loop-at-init`), shows it for
-- the whole.
use Prim.Native.Nat.{ℕ, ◌<◌}
use mathlib.Core.Path.{◌≡◌}
use mathlib.Core.Bool.{true}
use mathlib.Core.List.{List}
use native.Mathlib.Omega.{arith}
use lib.Dec.{eqb}
use lib.ListN.{length, get_or}
use borrow.Author.Tests.{eqb-true}
use Rattle.base.proofs.Table.{rule, passes}
use Rattle.text.specs.Check.{class_of}

-- each entry of a table is the class of its place
pub record Right (table : List ℕ) : Type 0 where
  pub size : length table ≡ 256
  pub test : passes (λ k x. eqb x (class_of k)) 0 table ≡ true

-- the rule at an entry
pub class_at : {table : List ℕ} → Right table → (b : ℕ) → b < 256 → get_or table b 0 ≡ class_of b
class_at {table} r b h = eqb-true (get_or table b 0) (class_of b) (rule (λ k x. eqb x (class_of k)) table r.test b (omega (arith, r.size)))
