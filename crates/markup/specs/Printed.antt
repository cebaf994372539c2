-- A start tag as it is printed: attributes with one space before each, in double quotes, and by reference what would not be read back.
use Rattle.std.specs.Prelude.{ℕ, Bool, cond, List, [], map, eqb}
use Rattle.base.specs.Ascii.{ascii}
use Rattle.base.specs.Chars.{horizontal_tab, line_feed, carriage_return}
use Rattle.text.specs.Text.{encoded}
use Rattle.event.specs.Event.{Attr}
use Rattle.markup.specs.Signs.{ampersand_sign, double_quote, less_than_sign}
use Rattle.markup.specs.References.{ampersand, less_than, quotation_mark, entity_ref, decimal_ref}
use Rattle.markup.specs.Markup.{double_mark, ValuePart, raw_char, reference, XmlAttribute, Markup, start_tag}

-- Document 02, request 14: "`&`, `<`, `"` by name, tab, line feed, carriage return as `&#9;`, `&#10;`, `&#13;`"
unfoldable pub printed_char : ℕ → ValuePart
printed_char c =
    cond (eqb c ampersand_sign) (reference (entity_ref ampersand))
    (cond (eqb c less_than_sign) (reference (entity_ref less_than))
    (cond (eqb c double_quote) (reference (entity_ref quotation_mark))
    (cond (eqb c horizontal_tab) (reference (decimal_ref (ascii "9")))
    (cond (eqb c line_feed) (reference (decimal_ref (ascii "10")))
    (cond (eqb c carriage_return) (reference (decimal_ref (ascii "13")))
    (raw_char c))))))

-- an attribute in characters
pub record CharAttr : Type 0 where
  pub name : List ℕ
  pub value : List ℕ

abbrev pub encoded_attr : CharAttr → Attr
encoded_attr a = record { name = encoded a.name; value = encoded a.value }

abbrev pub printed_attribute : CharAttr → XmlAttribute
printed_attribute a = record { gap = ascii " "; name = a.name; eq = record { before = []; behind = [] }; quote = double_mark; value = map printed_char a.value }

abbrev pub printed_tag : Bool → List ℕ → List CharAttr → Markup
printed_tag empty n attrs = start_tag empty n (map printed_attribute attrs) []
