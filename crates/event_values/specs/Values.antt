-- What the code holds of an event's fields: a number as its bits, a text as a value of the line, with its escapes. Each answer stands for a field of crate event_fields, or for its refusal.
use Rattle.std.specs.Prelude.{ℕ, ◌≡◌, ◌≤◌, length, List, Result, Some}
use Rattle.std.specs.Int.{w64}
use Rattle.std.proofs.Common.{to_z}
use Rattle.base.specs.Ascii.{ascii}
use Rattle.base.specs.Bytes.{Bytes}
use Rattle.refusal.specs.declared.Refusal.{Refusal}
use Rattle.model.specs.Record.{Member, Tag}
use Rattle.event.specs.Event.{Attr, value_of, or_empty}
use Rattle.event_scan.specs.Fields.{text_written}
use Rattle.event_scan.specs.declared.fields.Value.{Value}
use Rattle.event_fields.specs.Field.{Field}
use Rattle.event_values.specs.Value.{field_in}
use Rattle.event_values.specs.declared.TagValues.{TagValues}
use Rattle.event_values.specs.declared.MemberValues.{MemberValues}

abbrev pub value_field : {N : ℕ} → Result (Value N) Refusal → Field Bytes
value_field r = field_in text_written r

abbrev pub tag_means : {N : ℕ} → TagValues N → Tag Bytes
tag_means x = record { key = text_written x.key; value = text_written x.value }

-- both texts are no longer than so many bytes, as they are written
abbrev pub TagInBounds : {N : ℕ} → ℕ → TagValues N → Type 0
TagInBounds n x = (length x.key.bytes.now ≤ n) × (length x.value.bytes.now ≤ n)

-- its texts are those of `k` and `v`, as they are written
abbrev pub TagWritten : {N : ℕ} → List Attr → TagValues N → Type 0
TagWritten attrs x = (value_of (ascii "k") attrs ≡ Some x.key.bytes.now) × (value_of (ascii "v") attrs ≡ Some x.value.bytes.now)

abbrev pub tag_answered : {N : ℕ} → Result (TagValues N) Refusal → Field (Tag Bytes)
tag_answered r = field_in tag_means r

abbrev pub member_means : {N : ℕ} → MemberValues N → Member Bytes
member_means x = record { ref = to_z w64 x.reference; type = x.kind; role = text_written x.role }

-- its role is no longer than so many bytes, as it is written
abbrev pub MemberInBounds : {N : ℕ} → ℕ → MemberValues N → Type 0
MemberInBounds n x = length x.role.bytes.now ≤ n

-- its role is that of `role`, as it is written; empty where there is none
abbrev pub MemberWritten : {N : ℕ} → List Attr → MemberValues N → Type 0
MemberWritten attrs x = x.role.bytes.now ≡ or_empty (value_of (ascii "role") attrs)

abbrev pub member_answered : {N : ℕ} → Result (MemberValues N) Refusal → Field (Member Bytes)
member_answered r = field_in member_means r
