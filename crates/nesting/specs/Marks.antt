-- A document as the levels see it: opens, empties and closes in order, read by `opened` and `closed` (Nesting). An `other` event does nothing, and is no mark.
use Rattle.base.specs.Options.{Option-elim, bind}
use Rattle.std.specs.Prelude.{Bool, true, false, cond, List, [], ◌∷◌, ◌++◌, ◌≡◌, None, Option, Some}
use Rattle.kind.specs.declared.Kind.{Kind}
use Rattle.nesting.specs.declared.Name.{Name}
use Rattle.nesting.specs.declared.Action.{Action}
use Rattle.nesting.specs.declared.Action.TheVariants.{Create, Modify, Delete}
use Rattle.nesting.specs.declared.Level.{Level}
use Rattle.nesting.specs.declared.Level.TheVariants.{Doc, Root, Section, Element, Leaf, Other, Done}
use Rattle.nesting.specs.declared.Place.{Place}
use Rattle.nesting.specs.Opened.{Opened}
use Rattle.nesting.specs.Opened.{Misplaced, OutsideSection, Goes, Begins, Holds}
use Rattle.nesting.specs.Nesting.{start, opened, closed}

pub data Mark : Type 0 where
  opens : Name → Mark
  empties : Name → Mark
  closes : Mark

-- the place after an open or an empty element; none where it is refused 5 or 6
unfoldable pub place_taken : Opened → Option Place
place_taken Misplaced = None
place_taken OutsideSection = None
place_taken (Goes p) = Some p
place_taken (Begins k p) = Some p
place_taken (Holds c p) = Some p

unfoldable pub mark_step : Place → Mark → Option Place
mark_step p (opens n) = place_taken (opened false n p)
mark_step p (empties n) = place_taken (opened true n p)
mark_step p closes = Some (closed p)

-- the place after a list of marks; none where one is refused
unfoldable pub run : Place → List Mark → Option Place
run p [] = Some p
run p (m ∷ ms) = bind (mark_step p m) (λ q. run q ms)

-- the levels take the whole list, and its end too: "18 level is not Done"
abbrev pub Accepted : List Mark → Type 0
Accepted ms = (p : Place) × (run start ms ≡ Some p) × (p.level ≡ Done)

-- what an object does to the overlay
pub data Change : Type 0 where
  pushes : Kind → Change
  deletes : Kind → Change

-- "In a delete section the delete happens at the opening .. A push happens when its element ends.": an empty element ends as it begins
unfoldable pub made_at_opening : Bool → Action → Kind → List Change
made_at_opening empty Create k = cond empty (pushes k ∷ []) []
made_at_opening empty Modify k = cond empty (pushes k ∷ []) []
made_at_opening empty Delete k = deletes k ∷ []

unfoldable pub made_at_end : Action → Kind → List Change
made_at_end Create k = pushes k ∷ []
made_at_end Modify k = pushes k ∷ []
made_at_end Delete k = []

unfoldable pub opened_makes : Bool → Action → Opened → List Change
opened_makes empty a Misplaced = []
opened_makes empty a OutsideSection = []
opened_makes empty a (Goes p) = []
opened_makes empty a (Begins k p) = made_at_opening empty a k
opened_makes empty a (Holds c p) = []

unfoldable pub closed_makes : Level → Action → Kind → List Change
closed_makes Doc a k = []
closed_makes Root a k = []
closed_makes Section a k = []
closed_makes Element a k = made_at_end a k
closed_makes Leaf a k = []
closed_makes Other a k = []
closed_makes Done a k = []

unfoldable pub makes : Place → Mark → List Change
makes p (opens n) = opened_makes false p.section (opened false n p)
makes p (empties n) = opened_makes true p.section (opened true n p)
makes p closes = closed_makes p.level p.section p.kind

-- the changes of a list of marks, in order
unfoldable pub changes_from : Place → List Mark → List Change
changes_from p [] = []
changes_from p (m ∷ ms) = makes p m ++ Option-elim (mark_step p m) [] (λ q. changes_from q ms)
