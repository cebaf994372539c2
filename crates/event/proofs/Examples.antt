-- Lines and what they are, by computation: one for each form that is refused 4, and their neighbours.
use mathlib.Core.Path.{◌≡◌, refl}
use mathlib.Core.Bool.{true, false}
use mathlib.Core.List.{List, [], ◌∷◌, map}
use Rattle.base.specs.Ascii.{ascii}
use Rattle.base.specs.Bytes.{Bytes, both, either, all, same}
use Rattle.refusal.specs.declared.Refusal.TheVariants.{NotText, NotEventLine}
use Rattle.text.specs.Char.{from_to, xml_char, utf8}
use Rattle.text.specs.Check.{joined_bits, decoded, begins, char_len, text_after, is_text}
use Rattle.text.specs.Escape.{meaning, byte_before, unescape_from}
use Rattle.line.specs.Line.{onto, fields}
use Rattle.event.specs.Event.{Attr, starts, closes, others, Reading, reads, refused, unended, legal_line, parted, attr_of, attrs_of, named, none_twice, event_of}

pub record Row : Type 0 where
  pub bytes : Bytes
  pub reading : Reading

-- a line that is no event line, one that is not text, and one that reads as an element with attributes
abbrev no_event : Bytes → Row
no_event s = record { bytes = s; reading = refused NotEventLine }

abbrev no_text : Bytes → Row
no_text s = record { bytes = s; reading = refused NotText }

abbrev attr : Bytes → Bytes → Attr
attr n v = record { name = n; value = v }

abbrev opens : Bytes → Bytes → List Attr → Row
opens s n attrs = record { bytes = s; reading = reads (starts false n attrs) }

abbrev pub rows : List Row
rows =
    -- the four words
    opens (ascii "open\tosmChange\n") (ascii "osmChange") []
    ∷ record { bytes = ascii "empty\ttag\tk=name\tv=A\n"; reading = reads (starts true (ascii "tag") (attr (ascii "k") (ascii "name") ∷ attr (ascii "v") (ascii "A") ∷ [])) }
    ∷ record { bytes = ascii "close\n"; reading = reads closes }
    ∷ record { bytes = ascii "other\n"; reading = reads others }
    -- no bytes, an empty line, a word alone, an empty name, an unknown word
    ∷ no_event []
    ∷ no_event (ascii "\n")
    ∷ no_event (ascii "open\n")
    ∷ no_event (ascii "open\t\n")
    ∷ no_event (ascii "empty\t\tk=a\n")
    ∷ no_event (ascii "Open\tway\n")
    -- a trailing tab; `close` or `other` with a field
    ∷ no_event (ascii "open\tway\t\n")
    ∷ no_event (ascii "close\tway\n")
    ∷ no_event (ascii "other\t\n")
    -- a field without `=`, or with nothing before it
    ∷ no_event (ascii "open\tway\tid\n")
    ∷ no_event (ascii "open\tway\t=4\n")
    -- an escape that is not one of the four, a backslash that ends a value
    ∷ no_event (ascii "empty\ttag\tk=\\x\n")
    ∷ no_event (ascii "empty\ttag\tk=a\\\n")
    -- an attribute twice, whatever its values
    ∷ no_event (ascii "open\tway\tid=1\tid=2\n")
    ∷ no_event (ascii "open\tway\tx=1\ty=\tx=1\n")
    -- no line feed at the end, a line feed inside
    ∷ no_event (ascii "close")
    ∷ no_event (ascii "close\nclose\n")
    -- a carriage return is 3 wherever it stands, and before 4
    ∷ no_text (ascii "close\r\n")
    ∷ no_text (ascii "open\tw\ray\n")
    ∷ no_text (ascii "\r")
    -- a byte that is not UTF-8 is 3, and before 4; a byte order mark is a character, so it is 4
    ∷ no_text (255 ∷ ascii "\n")
    ∷ no_event (0xef ∷ 0xbb ∷ 0xbf ∷ ascii "open\tosmChange\n")
    -- the first `=` parts a name from its value, which may be empty or hold another
    ∷ opens (ascii "open\tway\tuser=\n") (ascii "way") (attr (ascii "user") [] ∷ [])
    ∷ opens (ascii "open\tway\tk=a=b=\n") (ascii "way") (attr (ascii "k") (ascii "a=b=") ∷ [])
    -- the four escapes in a value; a backslash in a name, and `=` in an element's name, are ordinary bytes
    ∷ opens (ascii "open\tway\tk=\\t\\n\\r\\\\\n") (ascii "way") (attr (ascii "k") (ascii "\t\n\r\\") ∷ [])
    ∷ opens (ascii "open\tw=\\x\ta\\x=1\n") (ascii "w=\\x") (attr (ascii "a\\x") (ascii "1") ∷ [])
    ∷ []

pub claim : map (λ r. event_of r.bytes) rows ≡ map (λ r. r.reading) rows
unfolding both either all same from_to xml_char utf8 joined_bits decoded begins char_len text_after is_text meaning byte_before unescape_from onto fields unended legal_line parted attr_of attrs_of named none_twice event_of
claim = refl
