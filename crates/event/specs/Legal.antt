-- Document 01, "Event lines": the events that a line can hold.
use Rattle.std.specs.Prelude.{Bool, true, not, leb, eqb, length}
use Rattle.base.specs.Bytes.{Bytes, both, all}
use Rattle.base.specs.Chars.{equals_sign}
use Rattle.text.specs.Check.{is_text}
use Rattle.line.specs.Line.{plain_field, tabbed}
use Rattle.event.specs.Event.{Attr, Event, starts, closes, others, is_empty, none_twice, event_fields}

-- text without a raw tab, line feed or carriage return: a tab would part it, a line feed end it, and "a raw carriage return in a line is not text"
unfoldable pub legal_field : Bytes → Bool
legal_field f = both (plain_field f) (is_text f)

-- "both names are not empty"; escapes are for values only, so a name is written as it is
unfoldable pub legal_name : Bytes → Bool
legal_name n = both (not (is_empty n)) (legal_field n)

-- "The first `=` parts a name from its value", so an attribute's name has none; any text can be a value, for "in values `\t`, `\n`, `\r`, `\\`
-- stand for tab, line feed, carriage return, backslash"
unfoldable pub legal_attr : Attr → Bool
legal_attr a = both (legal_name a.name) (both (all (λ b. not (eqb b equals_sign)) a.name) (is_text a.value))

-- `open⇥NAME⇥attr=value..`, `empty⇥NAME⇥..`, `close`, `other`; "or an attribute twice" is refused
unfoldable pub legal_parts : Event → Bool
legal_parts (starts empty n attrs) = both (legal_name n) (both (all legal_attr attrs) (none_twice attrs))
legal_parts closes = true
legal_parts others = true

-- "2 over 16,384 bytes without its line feed": the fields with their tabs are at most that
unfoldable pub legal_event : Event → Bool
legal_event e = both (legal_parts e) (leb (length (tabbed (event_fields e))) 16384)
