-- What is left of a line's fields and attributes.
use Rattle.std.specs.Prelude.{ℕ, List, [], None, Option, Some}
use Rattle.std.specs.Borrow.{Bor}
use Rattle.base.specs.Bytes.{Bytes}
use Rattle.line.specs.Line.{fields}
use Rattle.event.specs.Event.{Attr}
use Rattle.event_scan.specs.Piece.{value_text}
use Rattle.event_scan.specs.Parts.{written_in, attributes_in}
use Rattle.event_scan.specs.declared.fields.Fields.{Fields}
use Rattle.event_scan.specs.declared.fields.Value.{Value}
use Rattle.event_scan.specs.declared.fields.Attribute.{Attribute}
use Rattle.event_scan.specs.declared.fields.Attributes.{Attributes}

-- the fields that are left; none where the line has ended
abbrev pub fields_in : Option (Bor Bytes) → List Bytes
fields_in None = []
fields_in (Some s) = fields s.now

abbrev pub fields_left : {N : ℕ} → Fields N → List Bytes
fields_left f = fields_in f.rest

-- the text that a value stands for
abbrev pub text_written : {N : ℕ} → Value N → Bytes
text_written v = value_text v.bytes.now

-- an attribute as it is written
abbrev pub attribute_seen : {N : ℕ} → Attribute N → Attr
attribute_seen a = record { name = a.name.now; value = a.value.bytes.now }

-- the attributes that are left, as they are written
abbrev pub written_left : {N : ℕ} → Attributes N → List Attr
written_left a = written_in (fields_left a.fields)

-- the attributes that are left
abbrev pub attributes_left : {N : ℕ} → Attributes N → List Attr
attributes_left a = attributes_in (fields_left a.fields)
