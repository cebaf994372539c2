-- The id that stands at an offset, by its rank.
use Prim.Native.Nat.{ℕ, zero, suc, ◌-◌, ◌^◌}
use mathlib.Core.Path.{◌≡◌, refl, sym, ◌∙◌, ap}
use native.Mathlib.Omega.{arith}
use lib.Dec.{eqb}
use lib.IntN.{ℤ}
use borrow.Author.Tests.{eq-eqb, eqb-true}
use Rattle.base.proofs.Split.{by_le, same_test}
use Rattle.osm_id.specs.Order.{rank, id_of, same_id}
use Rattle.osm_id.proofs.Orders.{same_is, id_negative, id_positive}

-- any number is the rank of its id
pub rank_back : (r : ℕ) → rank (id_of r) ≡ r
unfolding rank id_of
rank_back zero = refl
rank_back (suc n) =
    by_le (suc n) (2 ^ 63)
    (λ l. rw (id_negative {r = suc n} (λ e. omega arith) l) (omega arith))
    (λ l. let e : suc n - 2 ^ 63 ≡ suc (n - 2 ^ 63) = omega arith in rw (id_positive l, e) (omega arith))

-- two ids are the same where their ranks are
pub same_rank : (id : ℤ) (k r : ℕ) → k ≡ rank id → id_of k ≡ id → eqb k r ≡ same_id id (id_of r)
same_rank id k r e i =
    same_test _ _
    (λ t. (same_is id (id_of r)).1 (sym i ∙ ap id_of (eqb-true k r t)))
    (λ t. eq-eqb k r (e ∙ (ap rank ((same_is id (id_of r)).0 t) ∙ rank_back r)))
