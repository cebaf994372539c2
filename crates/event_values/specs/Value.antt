-- What the code holds of an event's fields: a number as its bits, a kind. Each answer stands for a field of crate event_fields, or for its refusal.
use Rattle.refusal.specs.declared.Refusal.{Refusal}
use Rattle.std.specs.Prelude.{ℕ, [], ℤ, Err, Ok, Option, Result, option_map}
use Rattle.std.specs.Int.{Width, w32, w64}
use Rattle.std.proofs.Common.{to_z}
use Rattle.base.specs.Bytes.{Bytes}
use Rattle.kind.specs.declared.Kind.{Kind}
use Rattle.kind.specs.declared.Kind.TheVariants as K
use Rattle.model.specs.Record.{Body, place, refs, members}
use Rattle.event_fields.specs.Field.{Field, got, bad}
use Rattle.event_values.specs.declared.Coordinates.{Coordinates}

-- ---- numbers

-- the integer of an answer in bits
abbrev pub integer_in : Width → Option ℕ → Option ℤ
integer_in w o = option_map (to_z w) o

abbrev pub narrow_in : Option ℕ → Option ℤ
narrow_in o = integer_in w32 o

abbrev pub stamp_in : Option ℕ → Option ℤ
stamp_in o = integer_in w64 o

-- what an answer holds, read by f
abbrev pub field_in : {A B : Type 0} → (A → B) → Result A Refusal → Field B
field_in f (Ok x) = got (f x)
field_in f (Err r) = bad r

abbrev pub wide_field : Result ℕ Refusal → Field ℤ
wide_field r = field_in (to_z w64) r

abbrev pub narrow_field : Result ℕ Refusal → Field ℤ
narrow_field r = field_in (to_z w32) r

-- what an element of a kind holds at first
abbrev pub body_in : Kind → ℕ → ℕ → Body Bytes
body_in K.Node lat lon = place (to_z w32 lat) (to_z w32 lon)
body_in K.Way lat lon = refs []
body_in K.Relation lat lon = members []

abbrev pub body_field : Kind → Result Coordinates Refusal → Field (Body Bytes)
body_field k r = field_in (λ c. body_in k c.lat c.lon) r
