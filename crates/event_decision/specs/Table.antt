-- Document 01, "What is returned, by place of the check", for a line at a place: the rows line, nesting and fields as one ordered list of conditions.
-- "Places go top to bottom, a row left to right, but each field is checked whole before the next".
use Rattle.std.specs.Prelude.{ℕ, Bool, true, false, not, List, [], ◌∷◌, ◌++◌, ltb, ℤ, nat_abs, length, None, Option, Some}
use Rattle.std.specs.Int.{Width, w32, w64}
use Rattle.base.specs.Ascii.{ascii}
use Rattle.base.specs.Bytes.{Bytes, both, either, same}
use Rattle.refusal.specs.First.{ConditionRow, row}
use Rattle.refusal.specs.declared.Refusal.{Refusal}
use Rattle.refusal.specs.declared.Refusal.TheVariants as R
use Rattle.integer.specs.Integer.{integer_of}
use Rattle.degrees.specs.declared.Axis.{Axis}
use Rattle.degrees.specs.declared.Axis.TheVariants.{Latitude, Longitude}
use Rattle.degrees.specs.Degrees.{exact_degrees}
use Rattle.degrees.specs.Nearest.{most_degrees}
use Rattle.stamp.specs.Stamp.{stamp}
use Rattle.kind.specs.declared.Kind.{Kind}
use Rattle.kind.specs.declared.Kind.TheVariants as K
use Rattle.nesting.specs.Name.{name_of}
use Rattle.nesting.specs.Nesting.{opened}
use Rattle.nesting.specs.declared.Action.{Action}
use Rattle.nesting.specs.declared.Action.TheVariants as A
use Rattle.nesting.specs.declared.Place.{Place}
use Rattle.nesting.specs.declared.Child.{Child}
use Rattle.nesting.specs.declared.Child.TheVariants as C
use Rattle.nesting.specs.Opened.{Opened}
use Rattle.nesting.specs.Opened as O
use Rattle.event.specs.Event.{Attr, named, value_of, or_empty, starts, closes, others, Reading, reads, refused, unended, body, legal_line, event_in, event_of}
use Rattle.event_fields.specs.Field.{whole_name, degrees_name, most_whole}
use Rattle.event_decision.specs.Decision.{Decision, refuses, moves, begins, deletes, tags, refers, joins, ends}

-- the refusal of a decision, if it is one
abbrev pub refusal_in : Decision → Option Refusal
refusal_in (refuses r) = Some r
refusal_in (moves p) = None
refusal_in (begins e p id m b) = None
refusal_in (deletes k p id m) = None
refusal_in (tags p t) = None
refusal_in (refers p z) = None
refusal_in (joins p m) = None
refusal_in (ends p) = None

abbrev pub is_none : {A : Type 0} → Option A → Bool
is_none None = true
is_none (Some a) = false

-- ---- fields: "7 missing; 8 not an integer of its width; 9 timestamp; 10 coordinate range; 11 member type not `node`, `way`, `relation`"; document 02: 23, 24

abbrev pub exceeds : ℕ → Option ℤ → Bool
exceeds limit None = false
exceeds limit (Some z) = ltb limit (nat_abs z)

module _ (n : Bytes) (attrs : List Attr) where
  abbrev pub value_or_empty : Bytes
  value_or_empty = or_empty (value_of n attrs)

  abbrev pub missing_row : ConditionRow Refusal
  missing_row = row R.Missing (not (named n attrs))

  -- 7, 8
  abbrev pub integer_rows : Width → List (ConditionRow Refusal)
  integer_rows w = missing_row ∷ row R.NotInteger (is_none (integer_of w value_or_empty)) ∷ []

-- a coordinate, whole before the next: 24, 7, 8 for its whole number or 23 for its degrees, 10. A name that is not there has the empty text here, which is neither.
abbrev pub coordinate_rows : Axis → List Attr → List (ConditionRow Refusal)
coordinate_rows a attrs =
    row R.BothForms (both (named (whole_name a) attrs) (named (degrees_name a) attrs))
    ∷ row R.Missing (not (either (named (whole_name a) attrs) (named (degrees_name a) attrs)))
    ∷ row R.NotInteger (both (named (whole_name a) attrs) (is_none (integer_of w32 (value_or_empty (whole_name a) attrs))))
    ∷ row R.NotDegrees (both (named (degrees_name a) attrs) (is_none (exact_degrees (value_or_empty (degrees_name a) attrs))))
    ∷ row R.CoordinateRange (either (exceeds (most_whole a) (integer_of w32 (value_or_empty (whole_name a) attrs)))
    (exceeds (most_degrees a) (exact_degrees (value_or_empty (degrees_name a) attrs))))
    ∷ []

-- "Version, uid .. are i32; .. changeset i64"
abbrev pub bad_integer : Attr → Bool
bad_integer a =
    either (both (same a.name (ascii "version")) (is_none (integer_of w32 a.value)))
    (either (both (same a.name (ascii "changeset")) (is_none (integer_of w64 a.value)))
    (both (same a.name (ascii "uid")) (is_none (integer_of w32 a.value))))

abbrev pub bad_stamp : Attr → Bool
bad_stamp a = both (same a.name (ascii "timestamp")) (is_none (stamp a.value))

-- "then metadata in line order": 8 or 9 an attribute
unfoldable pub meta_rows : List Attr → List (ConditionRow Refusal)
meta_rows [] = []
meta_rows (a ∷ attrs) = row R.NotInteger (bad_integer a) ∷ row R.NotTimestamp (bad_stamp a) ∷ meta_rows attrs

-- "then a pushed node's lat7; then lon7", in either form
abbrev pub place_rows : Kind → List Attr → List (ConditionRow Refusal)
place_rows K.Node attrs = coordinate_rows Latitude attrs ++ coordinate_rows Longitude attrs
place_rows K.Way attrs = []
place_rows K.Relation attrs = []

abbrev pub if_pushed : Action → List (ConditionRow Refusal) → List (ConditionRow Refusal)
if_pushed A.Create rows = rows
if_pushed A.Modify rows = rows
if_pushed A.Delete rows = []

-- "Fields: id; then metadata in line order; then a pushed node's lat7; then lon7."
abbrev pub element_rows : Action → Kind → List Attr → List (ConditionRow Refusal)
element_rows a k attrs = integer_rows (ascii "id") attrs w64 ++ (meta_rows attrs ++ if_pushed a (place_rows k attrs))

abbrev pub is_kind_word : Bytes → Bool
is_kind_word v = either (same v (ascii "node")) (either (same v (ascii "way")) (same v (ascii "relation")))

-- "Tag: k, v. Member: type, ref, role (optional, else empty)."
abbrev pub child_rows : Child → List Attr → List (ConditionRow Refusal)
child_rows C.Tag attrs = missing_row (ascii "k") attrs ∷ missing_row (ascii "v") attrs ∷ []
child_rows C.Nd attrs = integer_rows (ascii "ref") attrs w64
child_rows C.Member attrs =
    missing_row (ascii "type") attrs ∷ row R.MemberType (not (is_kind_word (value_or_empty (ascii "type") attrs))) ∷ integer_rows (ascii "ref") attrs w64

abbrev pub field_rows : Opened → Action → List Attr → List (ConditionRow Refusal)
field_rows O.Misplaced a attrs = []
field_rows O.OutsideSection a attrs = []
field_rows (O.Goes p) a attrs = []
field_rows (O.Begins k p) a attrs = element_rows a k attrs
field_rows (O.Holds c p) a attrs = child_rows c attrs

-- ---- nesting: "5 misplaced; 6 object outside a section"

abbrev pub is_misplaced : Opened → Bool
is_misplaced O.Misplaced = true
is_misplaced O.OutsideSection = false
is_misplaced (O.Goes p) = false
is_misplaced (O.Begins k p) = false
is_misplaced (O.Holds c p) = false

abbrev pub is_outside_section : Opened → Bool
is_outside_section O.Misplaced = false
is_outside_section O.OutsideSection = true
is_outside_section (O.Goes p) = false
is_outside_section (O.Begins k p) = false
is_outside_section (O.Holds c p) = false

abbrev pub start_rows : Opened → Action → List Attr → List (ConditionRow Refusal)
start_rows o a attrs = row R.Misplaced (is_misplaced o) ∷ row R.OutsideSection (is_outside_section o) ∷ field_rows o a attrs

abbrev pub event_rows : Reading → Place → List (ConditionRow Refusal)
event_rows (reads (starts e n attrs)) p = start_rows (opened e (name_of n) p) p.section attrs
event_rows (reads closes) p = []
event_rows (reads others) p = []
event_rows (refused r) p = []

-- ---- line: "2 over 16,384 bytes without its line feed; 3 not text; 4 not an event line, or an attribute twice"

abbrev pub is_event : Reading → Bool
is_event (reads e) = true
is_event (refused r) = false

abbrev pub line_rows : Bytes → List (ConditionRow Refusal)
line_rows line =
    row R.LongLine (ltb 16384 (length (body line))) ∷ row R.NotText (not (legal_line (body line)))
    ∷ row R.NotEventLine (not (is_event (event_in (unended line)))) ∷ []

unfoldable pub decide_table : Bytes → Place → List (ConditionRow Refusal)
decide_table line p = line_rows line ++ event_rows (event_of line) p
