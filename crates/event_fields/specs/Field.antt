-- Document 01: the fields of an event, or which of 7 to 11 it is; "each field is checked whole before the next". Document 02: a coordinate in degrees, or 23 or 24.
use Rattle.std.specs.Prelude.{ℕ, ◌+◌, cond, List, [], ◌∷◌, leb, ℤ, pos, nat_abs, None, Option, Some, Err, Ok, Result}
use Rattle.std.specs.Int.{Width, w32, w64}
use Rattle.base.specs.Ascii.{ascii}
use Rattle.base.specs.Bytes.{Bytes, same}
use Rattle.refusal.specs.declared.Refusal.{Refusal}
use Rattle.refusal.specs.declared.Refusal.TheVariants.{Missing, NotInteger, NotTimestamp, CoordinateRange, MemberType, NotDegrees, BothForms}
use Rattle.integer.specs.Integer.{integer_of}
use Rattle.degrees.specs.declared.Axis.{Axis}
use Rattle.degrees.specs.declared.Axis.TheVariants.{Latitude, Longitude}
use Rattle.degrees.specs.declared.DegreesError.{DegreesError}
use Rattle.degrees.specs.declared.DegreesError.TheVariants as E
use Rattle.degrees.specs.Nearest.{read_degrees}
use Rattle.stamp.specs.Stamp.{stamp}
use Rattle.kind.specs.declared.Kind.{Kind}
use Rattle.kind.specs.declared.Kind.TheVariants.{Node, Way, Relation}
use Rattle.nesting.specs.declared.Name.{Name}
use Rattle.nesting.specs.declared.Name.TheVariants as N
use Rattle.nesting.specs.Name.{name_of}
use Rattle.model.specs.Record.{Meta, Member, Tag, Body, place, refs, members, flagged}
use Rattle.event.specs.Event.{Attr, value_of, or_empty}

-- a field's value, or its refusal
pub data Field (A : Type 0) : Type 0 where
  got : A → Field A
  bad : Refusal → Field A

-- a field, then what follows it: a bad field stops there
abbrev pub and_then : {A B : Type 0} → Field A → (A → Field B) → Field B
and_then (got a) f = f a
and_then (bad r) f = bad r

-- a value that is there, or else a refusal
abbrev pub or_else : {A : Type 0} → Refusal → Option A → Field A
or_else r None = bad r
or_else r (Some a) = got a

-- ---- one attribute

-- "7 missing"
abbrev pub required : Option Bytes → Field Bytes
required o = or_else Missing o

-- "8 not an integer of its width"
abbrev pub an_integer : Option ℤ → Field ℤ
an_integer o = or_else NotInteger o

unfoldable pub text_field : Bytes → List Attr → Field Bytes
text_field n attrs = required (value_of n attrs)

unfoldable pub integer_field : Width → Bytes → List Attr → Field ℤ
integer_field w n attrs = and_then (text_field n attrs) (λ v. an_integer (integer_of w v))

-- ---- an element's id

unfoldable pub id_field : List Attr → Field ℤ
id_field attrs = integer_field w64 (ascii "id") attrs

-- ---- coordinates of a pushed node

-- the two attributes that can give one: `lat7` and `lon7` in whole numbers of 1e-7 degree; document 02: "`lat` and `lon` as decimal text"
abbrev pub whole_name : Axis → Bytes
whole_name Latitude = ascii "lat7"
whole_name Longitude = ascii "lon7"

abbrev pub degrees_name : Axis → Bytes
degrees_name Latitude = ascii "lat"
degrees_name Longitude = ascii "lon"

-- "1e-7 degree, at most 900,000,000 and 1,800,000,000 either side of 0"
abbrev pub most_whole : Axis → ℕ
most_whole Latitude = 900000000
most_whole Longitude = 1800000000

-- "10 coordinate range"
abbrev pub coordinate_within : ℕ → ℤ → Field ℤ
coordinate_within limit z = cond (leb (nat_abs z) limit) (got z) (bad CoordinateRange)

-- a whole number's text: 8, then 10
abbrev pub whole_coordinate : Axis → Bytes → Field ℤ
whole_coordinate a v = and_then (an_integer (integer_of w32 v)) (coordinate_within (most_whole a))

-- degrees as text: "23 text not of this form, where 8 is checked for `lat7`"; then 10
abbrev pub degrees_answered : Result ℤ DegreesError → Field ℤ
degrees_answered (Ok z) = got z
degrees_answered (Err E.NotDegrees) = bad NotDegrees
degrees_answered (Err E.OutOfRange) = bad CoordinateRange

-- a coordinate by the values of its two names: "24 a pushed node's coordinate in both forms, first at that coordinate's place"; 7 in neither
abbrev pub coordinate_by : Axis → Option Bytes → Option Bytes → Field ℤ
coordinate_by a (Some v) (Some d) = bad BothForms
coordinate_by a None None = bad Missing
coordinate_by a (Some v) None = whole_coordinate a v
coordinate_by a None (Some d) = degrees_answered (read_degrees a d)

unfoldable pub coordinate : Axis → List Attr → Field ℤ
coordinate a attrs = coordinate_by a (value_of (whole_name a) attrs) (value_of (degrees_name a) attrs)

abbrev pub latitude : List Attr → Field ℤ
latitude attrs = coordinate Latitude attrs

abbrev pub longitude : List Attr → Field ℤ
longitude attrs = coordinate Longitude attrs

-- what an element of a kind begins with: "then a pushed node's lat7; then lon7", each whole and in either form
abbrev pub body_for : Kind → List Attr → Field (Body Bytes)
body_for Node attrs = and_then (latitude attrs) (λ lat. and_then (longitude attrs) (λ lon. got (place lat lon)))
body_for Way attrs = got (refs [])
body_for Relation attrs = got (members [])

-- ---- metadata

abbrev pub no_meta : Meta Bytes
no_meta = record { flags = 0; version = pos 0; timestamp = pos 0; changeset = pos 0; uid = pos 0; user = [] }

-- a flag set
unfoldable pub mark : ℕ → ℕ → ℕ
mark bit flags = cond (flagged bit flags) flags (flags + bit)

-- "Any of the six attributes sets flag 1"
abbrev pub present : ℕ → ℕ
present flags = mark 1 flags

abbrev pub with_version : Meta Bytes → ℤ → Meta Bytes
with_version m z = record { flags = mark 8 (present m.flags); version = z; timestamp = m.timestamp; changeset = m.changeset; uid = m.uid; user = m.user }

abbrev pub with_timestamp : Meta Bytes → ℤ → Meta Bytes
with_timestamp m z = record { flags = present m.flags; version = m.version; timestamp = z; changeset = m.changeset; uid = m.uid; user = m.user }

abbrev pub with_changeset : Meta Bytes → ℤ → Meta Bytes
with_changeset m z = record { flags = present m.flags; version = m.version; timestamp = m.timestamp; changeset = z; uid = m.uid; user = m.user }

abbrev pub with_uid : Meta Bytes → ℤ → Meta Bytes
with_uid m z = record { flags = present m.flags; version = m.version; timestamp = m.timestamp; changeset = m.changeset; uid = z; user = m.user }

abbrev pub with_user : Meta Bytes → Bytes → Meta Bytes
with_user m t = record { flags = mark 4 (present m.flags); version = m.version; timestamp = m.timestamp; changeset = m.changeset; uid = m.uid; user = t }

-- "only `visible=false` exactly sets 2"
abbrev pub with_visible : Meta Bytes → Bytes → Meta Bytes
with_visible m t =
    record {
      flags = cond (same t (ascii "false")) (mark 2 (present m.flags)) (present m.flags);
      version = m.version;
      timestamp = m.timestamp;
      changeset = m.changeset;
      uid = m.uid;
      user = m.user;
    }

-- "9 timestamp"
abbrev pub a_stamp : Option ℤ → Field ℤ
a_stamp o = or_else NotTimestamp o

-- metadata with one attribute more; other names are passed over
unfoldable pub meta_with : Meta Bytes → Attr → Field (Meta Bytes)
meta_with m a =
    cond (same a.name (ascii "version")) (and_then (an_integer (integer_of w32 a.value)) (λ z. got (with_version m z)))
    (cond (same a.name (ascii "timestamp")) (and_then (a_stamp (stamp a.value)) (λ z. got (with_timestamp m z)))
    (cond (same a.name (ascii "changeset")) (and_then (an_integer (integer_of w64 a.value)) (λ z. got (with_changeset m z)))
    (cond (same a.name (ascii "uid")) (and_then (an_integer (integer_of w32 a.value)) (λ z. got (with_uid m z)))
    (cond (same a.name (ascii "user")) (got (with_user m a.value))
    (cond (same a.name (ascii "visible")) (got (with_visible m a.value))
    (got m))))))

-- "then metadata in line order"
unfoldable pub meta_from : Meta Bytes → List Attr → Field (Meta Bytes)
meta_from m [] = got m
meta_from m (a ∷ attrs) = and_then (meta_with m a) (λ n. meta_from n attrs)

unfoldable pub metadata_of : List Attr → Field (Meta Bytes)
metadata_of attrs = meta_from no_meta attrs

-- ---- children

-- "Tag: k, v."
unfoldable pub tag_of : List Attr → Field (Tag Bytes)
tag_of attrs = and_then (text_field (ascii "k") attrs) (λ k. and_then (text_field (ascii "v") attrs) (λ v. got (record { key = k; value = v })))

unfoldable pub ref_of : List Attr → Field ℤ
ref_of attrs = integer_field w64 (ascii "ref") attrs

-- "11 member type not `node`, `way`, `relation`"
abbrev pub type_named : Name → Field Kind
type_named N.Node = got Node
type_named N.Way = got Way
type_named N.Relation = got Relation
type_named N.OsmChange = bad MemberType
type_named N.Create = bad MemberType
type_named N.Modify = bad MemberType
type_named N.Delete = bad MemberType
type_named N.Tag = bad MemberType
type_named N.Nd = bad MemberType
type_named N.Member = bad MemberType
type_named N.Bounds = bad MemberType
type_named N.Unknown = bad MemberType

-- "Member: type, ref, role"; "role (optional, else empty)"
unfoldable pub member_of : List Attr → Field (Member Bytes)
member_of attrs =
    and_then (text_field (ascii "type") attrs) (λ t. and_then (type_named (name_of t)) (λ k.
    and_then (integer_field w64 (ascii "ref") attrs) (λ r.
    got (record { ref = r; type = k; role = or_empty (value_of (ascii "role") attrs) }))))
