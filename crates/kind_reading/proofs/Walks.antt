-- The walk over the rows: the rows of a list from the i-th on, and a row's number among them.
use Rattle.std.specs.Prelude.{None, Some}
use Prim.Native.Nat.{ℕ, zero, suc, ◌+◌, ◌-◌, ◌<◌, ◌≤◌}
use mathlib.Core.Path.{◌≡◌, refl}
use mathlib.Core.Bool.{true, false}
use mathlib.Core.List.{List, [], ◌∷◌}
use native.Mathlib.Omega.{arith}
use Rattle.kind_table.specs.Words.{row_at, rows_from, rows_of}
use Rattle.kind_table.specs.declared.Row.{Row}
use Rattle.kind_reading.specs.declared.Side.{Side}
use Rattle.kind_reading.specs.Listed.{is_on, rows_on, nth}

-- a row on the list, and one that is not
module _ (side : Side) (r : Row) (rs : List Row) where
  pub on_more : is_on side r ≡ true → rows_on side (r ∷ rs) ≡ r ∷ rows_on side rs
  unfolding rows_on
  on_more t = rw t

  pub on_other : is_on side r ≡ false → rows_on side (r ∷ rs) ≡ rows_on side rs
  unfolding rows_on
  on_other t = rw t

-- a number counts the rows before it
pub nth_none : (n : ℕ) → nth [] n ≡ None
unfolding nth
nth_none n = refl

pub nth_first : (r : Row) (rs : List Row) → nth (r ∷ rs) 0 ≡ Some r
unfolding nth
nth_first r rs = refl

pub nth_later : (r : Row) (rs : List Row) (n : ℕ) → (n ≡ 0 → ⊥) → nth (r ∷ rs) n ≡ nth rs (n - 1)
unfolding nth
nth_later r rs zero d = absurd (d refl)
nth_later r rs (suc n) d = let e : suc n - 1 ≡ n = omega arith in rw e

-- the rows on a list from the i-th of n on
pub onward : Side → List ℕ → ℕ → ℕ → List Row
onward side ws n i = rows_on side (rows_from ws i (n - i))

module _ (side : Side) (ws : List ℕ) (n : ℕ) where
  pub onward_starts : onward side ws n 0 ≡ rows_on side (rows_of ws n)
  unfolding onward rows_of
  onward_starts = let e : n - 0 ≡ n = omega arith in rw e

  pub onward_more : (i : ℕ) → i < n → is_on side (row_at ws i) ≡ true → onward side ws n i ≡ row_at ws i ∷ onward side ws n (i + 1)
  unfolding onward rows_from
  onward_more i h t =
      let e : n - i ≡ suc (n - (i + 1)) = omega arith in
      let g : suc i ≡ i + 1 = omega arith in
      rw (e, on_more side (row_at ws i) (rows_from ws (suc i) (n - (i + 1))) t, g)

  pub onward_other : (i : ℕ) → i < n → is_on side (row_at ws i) ≡ false → onward side ws n i ≡ onward side ws n (i + 1)
  unfolding onward rows_from
  onward_other i h t =
      let e : n - i ≡ suc (n - (i + 1)) = omega arith in
      let g : suc i ≡ i + 1 = omega arith in
      rw (e, on_other side (row_at ws i) (rows_from ws (suc i) (n - (i + 1))) t, g)

  pub onward_ends : (i : ℕ) → n ≤ i → onward side ws n i ≡ []
  unfolding onward rows_from rows_on
  onward_ends i h = let e : n - i ≡ 0 = omega arith in rw e
