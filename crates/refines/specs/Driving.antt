-- An event and a place on both sides: the library's beside the Rust's.
use Rattle.std.specs.Prelude.{ℕ, Bool, true, false, cond, List, map, ℤ, nat_le, unsigned_abs, Result, Ok, Err, Option, Some, None}
use Rattle.base.specs.Bytes.{Bytes}
use Rattle.stamp.specs.Stamp.{stamp}
use Rattle.degrees.specs.declared.Axis.{Axis}
use Rattle.degrees.specs.declared.Axis.TheVariants.{Latitude, Longitude}
use Rattle.degrees.specs.declared.DegreesError.{DegreesError}
use Rattle.degrees.specs.declared.DegreesError.TheVariants as E
use Rattle.degrees.specs.Nearest.{read_degrees}
use Rattle.event_fields.specs.Field.{whole_name, degrees_name, most_whole}
use Rattle.nesting.specs.declared.Action.{Action}
use Rattle.nesting.specs.declared.Action.TheVariants as A
use Rattle.nesting.specs.declared.Level.{Level}
use Rattle.nesting.specs.declared.Level.TheVariants as L
use Rattle.nesting.specs.declared.Place.{Place}
use Rattle.event.specs.Event.{Attr, Event, starts, closes, others}
use Rattle.published.specs.Std.{parse_int}
use Rattle.published.specs.XmlParse.{Attribute, BytesStart, Error, missing_attr, not_integer, bad_coordinate, not_degrees, both_forms, then, ok_or, find_attr, NotPublished, OscAction, DriveState}
use Rattle.published.specs.XmlParse as X
use Rattle.refines.specs.Overlays.{element_kind}

-- ---- what is not published: the timestamp reader as document 02, request 6, has it (D9), and coordinates as document 01's lat7 and lon7 and request 1's degrees have them

abbrev pub limited : ℕ → ℤ → Result ℤ Error
limited limit z = cond (nat_le (unsigned_abs z) limit) (Ok z) (Err bad_coordinate)

abbrev pub whole_told : Axis → Bytes → Result ℤ Error
whole_told a v = then (ok_or not_integer (parse_int 31 v)) (limited (most_whole a))

abbrev pub degrees_told : Result ℤ DegreesError → Result ℤ Error
degrees_told (Ok z) = Ok z
degrees_told (Err E.NotDegrees) = Err not_degrees
degrees_told (Err E.OutOfRange) = Err bad_coordinate

-- by the values of its two names
abbrev pub coordinate_told : Axis → Option Bytes → Option Bytes → Result ℤ Error
coordinate_told a (Some v) (Some d) = Err both_forms
coordinate_told a None None = Err missing_attr
coordinate_told a (Some v) None = whole_told a v
coordinate_told a None (Some d) = degrees_told (read_degrees a d)

abbrev pub coordinate_in : Axis → BytesStart → Result ℤ Error
coordinate_in a e = coordinate_told a (find_attr e.attributes (whole_name a)) (find_attr e.attributes (degrees_name a))

abbrev pub by_documents : NotPublished
by_documents = record { parse_rfc3339_utc = stamp; lat = coordinate_in Latitude; lon = coordinate_in Longitude }

-- ---- events

abbrev pub attribute : Attr → Attribute
attribute a = record { key = a.name; value = a.value }

abbrev pub bytes_start : Bytes → List Attr → BytesStart
bytes_start n attrs = record { name = n; attributes = map attribute attrs }

abbrev pub rust_start : Bool → BytesStart → X.Event
rust_start true e = X.Empty e
rust_start false e = X.Start e

abbrev pub rust_event : Event → X.Event
rust_event (starts empty n attrs) = rust_start empty (bytes_start n attrs)
rust_event closes = X.End
rust_event others = X.Event.Other

-- ---- places

abbrev pub action : Action → OscAction
action A.Create = X.Create
action A.Modify = X.Modify
action A.Delete = X.Delete

abbrev pub level : Level → X.Level
level L.Doc = X.Doc
level L.Root = X.Root
level L.Section = X.Section
level L.Element = X.Element
level L.Leaf = X.Leaf
level L.Other = X.Level.Other
level L.Done = X.Done

abbrev pub drive_state : Place → DriveState
drive_state p = record { level = level p.level; section = action p.section; open_kind = element_kind p.kind }
