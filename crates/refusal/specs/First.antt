-- "A call or event is refused when, and only when, .. a condition of the table holds at its place. .. Places go top to bottom, a row left to right".
-- Each call or event has one ordered list of conditions: it is refused by the first that holds, and where none holds it is accepted.
use Rattle.std.specs.Prelude.{Bool, cond, List, [], ◌∷◌, None, Option, Some}

-- what a row of a table gives, and whether its condition holds
pub record ConditionRow (A : Type 0) : Type 0 where
  pub gives : A
  pub holds : Bool

abbrev pub row : {A : Type 0} → A → Bool → ConditionRow A
row gives holds = record { gives = gives; holds = holds }

-- what the first row gives whose condition holds
unfoldable pub first_of : {A : Type 0} → List (ConditionRow A) → Option A
first_of [] = None
first_of (r ∷ rs) = cond r.holds (Some r.gives) (first_of rs)
