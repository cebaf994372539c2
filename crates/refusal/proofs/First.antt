-- The first row of two tables, one after the other.
use Rattle.std.specs.Prelude.{None, Option, Some}
use mathlib.Core.Path.{◌≡◌, refl}
use mathlib.Core.Bool.{Bool, true, false, cond}
use mathlib.Core.List.{List, [], ◌∷◌, ◌++◌}
use Rattle.refusal.specs.First.{ConditionRow, first_of}

-- what comes first, if there is anything, else what comes next
abbrev pub before : {A : Type 0} → Option A → Option A → Option A
before None y = y
before (Some x) y = Some x

module _ {A : Type 0} where
  after_row : (b : Bool) (a : A) (x y z : Option A) → x ≡ before y z → cond b (Some a) x ≡ before (cond b (Some a) y) z
  after_row true a x y z e = refl
  after_row false a x y z e = e

  pub first_more : (xs ys : List (ConditionRow A)) → first_of (xs ++ ys) ≡ before (first_of xs) (first_of ys)
  unfolding first_of
  first_more [] ys = refl
  first_more (x ∷ xs) ys = after_row x.holds x.gives _ _ _ (first_more xs ys)
