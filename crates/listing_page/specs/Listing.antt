-- Document 01, "The listing": "Fields: kind; id; `+` live or `-` deleted; known version or `?`. A deleted line ends there. A live one goes on: ..".
use Rattle.std.specs.Prelude.{List, [], ◌∷◌, ◌++◌, ℤ, length, None, Option, Some}
use Rattle.base.specs.Ascii.{ascii}
use Rattle.base.specs.Bytes.{Bytes}
use Rattle.kind.specs.Kind.{kind_number}
use Rattle.kind.specs.declared.Kind.{Kind}
use Rattle.kind.specs.declared.Kind.TheVariants.{Node, Way, Relation}
use Rattle.text.specs.Escape.{escape}
use Rattle.line.specs.Line.{line}
use Rattle.line.specs.Decimal.{number_text, integer_text}
use Rattle.model.specs.Record.{Meta, Member, Tag, Body, place, refs, members, Record}
use Rattle.model.specs.Act.{Left, gone, live}
use Rattle.listing_page.specs.Summary.{PageRow, Table}

-- "Kinds n, w, r"
unfoldable pub kind_field : Kind → Bytes
kind_field Node = ascii "n"
kind_field Way = ascii "w"
kind_field Relation = ascii "r"

-- "known version or `?`"
unfoldable pub version_field : Option ℤ → Bytes
version_field None = ascii "?"
version_field (Some v) = integer_text v

-- the fields of each element of a list, one after the other
unfoldable pub each : {A : Type 0} → (A → List Bytes) → List A → List Bytes
each f [] = []
each f (a ∷ xs) = f a ++ each f xs

-- a count and the fields of what it counts
unfoldable pub counted : {A : Type 0} → (A → List Bytes) → List A → List Bytes
counted f xs = number_text (length xs) ∷ each f xs

abbrev pub ref_fields : ℤ → List Bytes
ref_fields r = integer_text r ∷ []

-- "type (0 to 2), ref, role each"
abbrev pub member_fields : Member Bytes → List Bytes
member_fields m = number_text (kind_number m.type) ∷ integer_text m.ref ∷ escape m.role ∷ []

-- "each key and value"; "Texts use the escapes above."
abbrev pub tag_fields : Tag Bytes → List Bytes
tag_fields t = escape t.key ∷ escape t.value ∷ []

-- "flags, version, timestamp, changeset, uid, user"
abbrev pub meta_fields : Meta Bytes → List Bytes
meta_fields m =
    number_text m.flags ∷ integer_text m.version ∷ integer_text m.timestamp ∷ integer_text m.changeset ∷ integer_text m.uid ∷ escape m.user ∷ []

-- "node: lat7, lon7; way: ref count, refs; relation: member count, then type (0 to 2), ref, role each"
unfoldable pub body_fields : Body Bytes → List Bytes
body_fields (place lat lon) = integer_text lat ∷ integer_text lon ∷ []
body_fields (refs rs) = counted ref_fields rs
body_fields (members ms) = counted member_fields ms

-- "last the tag count and each key and value"
unfoldable pub record_fields : Record Bytes → List Bytes
record_fields r = meta_fields r.meta ++ body_fields r.body ++ counted tag_fields r.tags

abbrev pub sign_field : Left Bytes → Bytes
sign_field gone = ascii "-"
sign_field (live r) = ascii "+"

abbrev pub last_fields : Left Bytes → List Bytes
last_fields gone = []
last_fields (live r) = record_fields r

unfoldable pub row_fields : PageRow → List Bytes
row_fields r = kind_field r.key.kind ∷ integer_text r.key.id ∷ sign_field r.last ∷ version_field r.high ∷ last_fields r.last

-- "No header; an empty overlay lists as no bytes": a line for each row
unfoldable pub listing : Table → Bytes
listing [] = []
listing (r ∷ rs) = line (row_fields r) ++ listing rs
