-- Document 01, "Event lines": "One event a line, ended by a line feed: `open⇥NAME⇥attr=value..`, `empty⇥NAME⇥..`, `close`, `other`."
use Rattle.std.specs.Prelude.{ℕ, Bool, true, false, cond, not, List, [], ◌∷◌, ◌++◌, ltb, eqb, length, None, Option, Some, option_map}
use Rattle.base.specs.Ascii.{ascii}
use Rattle.base.specs.Bytes.{Bytes, both, all, same}
use Rattle.base.specs.Chars.{line_feed, carriage_return, equals_sign}
use Rattle.refusal.specs.declared.Refusal.{Refusal}
use Rattle.refusal.specs.declared.Refusal.TheVariants.{LongLine, NotText, NotEventLine}
use Rattle.text.specs.Check.{is_text}
use Rattle.text.specs.Escape.{escape, unescape}
use Rattle.line.specs.Line.{fields, line}

-- an attribute with its text
pub record Attr : Type 0 where
  pub name : Bytes
  pub value : Bytes

-- an open or, where the test is true, an empty element with its attributes in order; a close; anything else
pub data Event : Type 0 where
  starts : Bool → Bytes → List Attr → Event
  closes : Event
  others : Event

-- what a line is: an event, or refused
pub data Reading : Type 0 where
  reads : Event → Reading
  refused : Refusal → Reading

-- ---- a line of bytes

-- a line without its line feed; none where the line feed is missing
unfoldable pub unended : Bytes → Option Bytes
unended [] = None
unended (b ∷ []) = cond (eqb b line_feed) (Some []) None
unended (b ∷ d ∷ ds) = option_map (b ∷◌) (unended (d ∷ ds))

-- what is measured and judged: the line without its line feed, or all of it where that is missing
abbrev pub body_of : Bytes → Option Bytes → Bytes
body_of s None = s
body_of s (Some t) = t

abbrev pub body : Bytes → Bytes
body s = body_of s (unended s)

-- "a raw carriage return in a line is not text"
unfoldable pub legal_line : Bytes → Bool
legal_line t = both (is_text t) (all (λ b. not (eqb b carriage_return)) t)

-- ---- attributes

-- "The first `=` parts a name from its value; both names are not empty."
pub record Parted : Type 0 where
  pub left : Bytes
  pub right : Bytes

abbrev pub onto_left : ℕ → Option Parted → Option Parted
onto_left b None = None
onto_left b (Some p) = Some (record { left = b ∷ p.left; right = p.right })

unfoldable pub parted : Bytes → Option Parted
parted [] = None
parted (b ∷ bs) = cond (eqb b equals_sign) (Some (record { left = []; right = bs })) (onto_left b (parted bs))

abbrev pub is_empty : Bytes → Bool
is_empty [] = true
is_empty (b ∷ bs) = false

abbrev pub attr_with : Bytes → Option Bytes → Option Attr
attr_with n None = None
attr_with n (Some v) = Some (record { name = n; value = v })

abbrev pub attr_from : Option Parted → Option Attr
attr_from None = None
attr_from (Some p) = cond (is_empty p.left) None (attr_with p.left (unescape p.right))

unfoldable pub attr_of : Bytes → Option Attr
attr_of f = attr_from (parted f)

abbrev pub beside : Option Attr → Option (List Attr) → Option (List Attr)
beside None attrs = None
beside (Some a) None = None
beside (Some a) (Some attrs) = Some (a ∷ attrs)

unfoldable pub attrs_of : List Bytes → Option (List Attr)
attrs_of [] = Some []
attrs_of (f ∷ fs) = beside (attr_of f) (attrs_of fs)

unfoldable pub named : Bytes → List Attr → Bool
named n [] = false
named n (a ∷ attrs) = cond (same n a.name) true (named n attrs)

-- "or an attribute twice"
unfoldable pub none_twice : List Attr → Bool
none_twice [] = true
none_twice (a ∷ attrs) = both (not (named a.name attrs)) (none_twice attrs)

-- the value of the attribute of a name, if there is one
unfoldable pub value_of : Bytes → List Attr → Option Bytes
value_of n [] = None
value_of n (a ∷ attrs) = cond (same n a.name) (Some a.value) (value_of n attrs)

-- a value that may be missing: empty where it is
abbrev pub or_empty : Option Bytes → Bytes
or_empty None = []
or_empty (Some v) = v

-- ---- events

abbrev pub starts_with : Bool → Bytes → Option (List Attr) → Reading
starts_with empty n None = refused NotEventLine
starts_with empty n (Some attrs) = cond (none_twice attrs) (reads (starts empty n attrs)) (refused NotEventLine)

abbrev pub starts_from : Bool → List Bytes → Reading
starts_from empty [] = refused NotEventLine
starts_from empty (n ∷ fs) = cond (is_empty n) (refused NotEventLine) (starts_with empty n (attrs_of fs))

abbrev pub alone : Event → List Bytes → Reading
alone e [] = reads e
alone e (f ∷ fs) = refused NotEventLine

abbrev pub event_from : List Bytes → Reading
event_from [] = refused NotEventLine
event_from (w ∷ fs) =
    cond (same w (ascii "open")) (starts_from false fs)
    (cond (same w (ascii "empty")) (starts_from true fs)
    (cond (same w (ascii "close")) (alone closes fs)
    (cond (same w (ascii "other")) (alone others fs)
    (refused NotEventLine))))

-- "Another escape, or a last line without its line feed, is refused 4."
abbrev pub event_in : Option Bytes → Reading
event_in None = refused NotEventLine
event_in (Some t) = cond (all (λ b. not (eqb b line_feed)) t) (event_from (fields t)) (refused NotEventLine)

-- "2 over 16,384 bytes without its line feed; 3 not text; 4 not an event line, or an attribute twice"
unfoldable pub event_of : Bytes → Reading
event_of s =
    cond (ltb 16384 (length (body s))) (refused LongLine)
    (cond (legal_line (body s)) (event_in (unended s))
    (refused NotText))

-- ---- an event as a line

abbrev pub attr_field : Attr → Bytes
attr_field a = a.name ++ (equals_sign ∷ escape a.value)

unfoldable pub attr_fields : List Attr → List Bytes
attr_fields [] = []
attr_fields (a ∷ attrs) = attr_field a ∷ attr_fields attrs

-- the word of an open or, where the test is true, an empty element
abbrev pub start_word : Bool → Bytes
start_word false = ascii "open"
start_word true = ascii "empty"

abbrev pub event_fields : Event → List Bytes
event_fields (starts empty n attrs) = start_word empty ∷ n ∷ attr_fields attrs
event_fields closes = ascii "close" ∷ []
event_fields others = ascii "other" ∷ []

unfoldable pub line_of : Event → Bytes
line_of e = line (event_fields e)
