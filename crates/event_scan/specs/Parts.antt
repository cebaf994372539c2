-- A text parted by the first of a byte, and the attributes that fields are.
use Rattle.std.specs.Prelude.{ℕ, suc, ◌+◌, cond, List, [], ◌∷◌, eqb, length, take, drop, map, None, Option, Some, option_map}
use Rattle.std.specs.Borrow.{Bor}
use Rattle.base.specs.Bytes.{Bytes}
use Rattle.base.specs.Chars.{equals_sign}
use Rattle.text.specs.Escape.{unescape}
use Rattle.event.specs.Event.{Attr, Parted, onto_left}
use Rattle.event_scan.specs.Piece.{value_text}
use Rattle.event_scan.specs.Scan.{UpTo}

-- what stands before the first c and behind it
unfoldable pub parted_by : ℕ → Bytes → Option Parted
parted_by c [] = None
parted_by c (b ∷ bs) = cond (eqb b c) (Some (record { left = []; right = bs })) (onto_left b (parted_by c bs))

abbrev pub parts_seen : Option (Bor Bytes × Bor Bytes) → Option Parted
parts_seen o = option_map (λ p. record { left = p.0.now; right = p.1.now }) o

abbrev pub name_seen : Option (Bor Bytes) → Option Bytes
name_seen o = option_map (λ n. n.now) o

-- what is left of a line
abbrev pub text_left : Option (Bor Bytes) → Bytes
text_left None = []
text_left (Some s) = s.now

-- how many bytes that is
abbrev pub size_left : Option (Bor Bytes) → ℕ
size_left None = 0
size_left (Some s) = length s.now

-- ---- fields as attributes

-- a field as an attribute, as it is written: its name goes to the first `=`, and its value stands behind it. Where there is no `=`, the whole field is the name
abbrev pub written_as : Bytes → Attr
written_as f = record { name = take (UpTo equals_sign f) f; value = drop (suc (UpTo equals_sign f)) f }

abbrev pub written_in : List Bytes → List Attr
written_in fs = map written_as fs

-- an attribute whose value is as it is written, with the text that the value stands for: nothing where it has another escape
abbrev pub with_text : Attr → Attr
with_text a = record { name = a.name; value = value_text a.value }

-- the text of a value that was found, which is as it is written; none where it has another escape
abbrev pub text_in : Option Bytes → Option Bytes
text_in None = None
text_in (Some v) = unescape v

-- the attributes that fields are
abbrev pub attributes_in : List Bytes → List Attr
attributes_in fs = map with_text (written_in fs)

-- ---- sizes

-- how many bytes fields take, without the tabs between them
unfoldable pub fields_size : List Bytes → ℕ
fields_size [] = 0
fields_size (f ∷ fs) = length f + fields_size fs

-- how many bytes attributes take as they are written, without each `=` and the tabs
unfoldable pub written_size : List Attr → ℕ
written_size [] = 0
written_size (a ∷ attrs) = length a.name + length a.value + written_size attrs
