-- Places in a text: where the attribute at a place ends, and where the value of a name lies.
use Rattle.std.specs.Prelude.{ℕ, ◌+◌, cond, List, [], ◌∷◌, length, take, None, Option, Some}
use Rattle.std.proofs.Math.Seq.{slice}
use Rattle.base.specs.Bytes.{Bytes, same}
use Rattle.base.specs.Chars.{equals_sign}
use Rattle.event_scan.specs.Scan.{UpTo, fields_at}
use Rattle.event_scan.specs.declared.located.AttributePlaces.{AttributePlaces}
use Rattle.event_scan.specs.declared.located.ValuePlaces.{ValuePlaces}

-- the attribute that stands at a place: its name up to the first `=`, its value from there to the field's end
abbrev pub attribute_in : ℕ → List Bytes → Option AttributePlaces
attribute_in at [] = None
attribute_in at (f ∷ fs) = Some (record { equals = at + UpTo equals_sign f; end = at + length f })

unfoldable pub attribute_at : Bytes → ℕ → Option AttributePlaces
attribute_at t at = attribute_in at (fields_at t at)

-- the value of a name, as it is written: that of the first attribute of the name from a place on
unfoldable pub value_in : Bytes → ℕ → List Bytes → Option ValuePlaces
value_in name at [] = None
value_in name at (f ∷ fs) =
    cond (same name (take (UpTo equals_sign f) f)) (Some (record { from = at + UpTo equals_sign f + 1; to = at + length f })) (value_in name (at + length f + 1) fs)

unfoldable pub attribute_value : Bytes → Bytes → ℕ → Option ValuePlaces
attribute_value t name at = value_in name at (fields_at t at)

-- the bytes of a text between two places; none where the second comes first
abbrev pub bytes_between : Bytes → ValuePlaces → Bytes
bytes_between t p = slice p.from p.to t
