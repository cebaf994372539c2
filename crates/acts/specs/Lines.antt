-- A line as the levels see it: the mark of an open, an empty element or a close; an `other` event is none, and neither is a line that is no event.
use Rattle.std.specs.Prelude.{Bool, true, false, List, [], ◌∷◌}
use Rattle.base.specs.Bytes.{Bytes}
use Rattle.nesting.specs.Name.{name_of}
use Rattle.nesting.specs.Marks.{Mark, opens, empties, closes}
use Rattle.nesting.specs.declared.Name.{Name}
use Rattle.event.specs.Event as E
use Rattle.event.specs.Event.{Reading, reads, refused, event_of}

abbrev pub mark_of : Bool → Name → Mark
mark_of true n = empties n
mark_of false n = opens n

-- the mark of a line, if it is one
abbrev pub marks_in : Reading → List Mark
marks_in (reads (E.starts e n attrs)) = mark_of e (name_of n) ∷ []
marks_in (reads E.closes) = closes ∷ []
marks_in (reads E.others) = []
marks_in (refused r) = []

abbrev pub line_marks : Bytes → List Mark
line_marks line = marks_in (event_of line)
