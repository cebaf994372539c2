-- What an open or an empty element does at a place.
use Rattle.kind.specs.declared.Kind.{Kind}
use Rattle.nesting.specs.declared.Place.{Place}
use Rattle.nesting.specs.declared.Child.{Child}

pub data Opened : Type 0 where
  -- refused 5
  Misplaced : Opened
  -- refused 6
  OutsideSection : Opened
  -- only the place changes
  Goes : Place → Opened
  -- an element of a kind begins
  Begins : Kind → Place → Opened
  -- a child of the open element
  Holds : Child → Place → Opened
