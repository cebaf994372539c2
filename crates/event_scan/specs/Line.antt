-- What a line that was read means.
use Rattle.std.specs.Prelude.{ℕ, ◌≡◌, ◌≤◌, List, ◌∷◌, length, Err, Ok, Result, Some}
use Rattle.base.specs.Bytes.{Bytes}
use Rattle.refusal.specs.declared.Refusal.{Refusal}
use Rattle.event.specs.Event.{attrs_of, Event, starts, closes, others, Reading, reads, refused}
use Rattle.event_scan.specs.Parts.{written_size, attributes_in}
use Rattle.event_scan.specs.Fields.{fields_left, written_left, attributes_left}
use Rattle.event_scan.specs.declared.event_line.EventLine.{EventLine}
use Rattle.event_scan.specs.declared.event_line.EventLine.TheVariants as L

abbrev pub event_means : EventLine → Event
event_means (L.Starts empty name attributes) = starts empty name.now (attributes_left attributes)
event_means L.Closes = closes
event_means L.Others = others

abbrev pub line_means : Result EventLine Refusal → Reading
line_means (Ok l) = reads (event_means l)
line_means (Err r) = refused r

-- "The first `=` parts a name from its value; both names are not empty", and "another escape .. is refused 4": each of these fields is an attribute as it is written
abbrev pub Good : List Bytes → Type 0
Good fs = attrs_of fs ≡ Some (attributes_in fs)

-- the name of an element is no longer than so many bytes, and behind it stand attributes alone, which are no longer as they are written
abbrev pub InBounds : ℕ → EventLine → Type 0
InBounds n (L.Starts empty name attributes) = (length name.now ≤ n) × (written_size (written_left attributes) ≤ n) × Good (fields_left attributes.fields)
InBounds n L.Closes = Unit {0}
InBounds n L.Others = Unit {0}

-- the name of an element and its attributes are these fields, as they are written
abbrev pub Spells : List Bytes → EventLine → Type 0
Spells fs (L.Starts empty name attributes) = fs ≡ name.now ∷ fields_left attributes.fields
Spells fs L.Closes = Unit {0}
Spells fs L.Others = Unit {0}
