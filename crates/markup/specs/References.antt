-- XML 1.0, fifth edition, 4.1 and 4.6: references to characters. Document 02, request 2: "the five named entities, character references".
use Rattle.std.specs.Prelude.{ℕ, ◌+◌, ◌-◌, ◌*◌, Bool, true, cond, not, List, [], ◌∷◌, ◌++◌}
use Rattle.base.specs.Ascii.{ascii}
use Rattle.base.specs.Bytes.{both, either, all, is_digit}
use Rattle.text.specs.Char.{from_to, xml_char}
use Rattle.markup.specs.Names.{no_chars}
use Rattle.markup.specs.Signs.{ampersand_sign, double_quote, greater_than_sign, less_than_sign, single_quote}

-- 4.6: amp, lt, gt, apos, quot
pub data Entity : Type 0 where
  ampersand : Entity
  less_than : Entity
  greater_than : Entity
  apostrophe : Entity
  quotation_mark : Entity

abbrev pub entity_name : Entity → List ℕ
entity_name ampersand = ascii "amp"
entity_name less_than = ascii "lt"
entity_name greater_than = ascii "gt"
entity_name apostrophe = ascii "apos"
entity_name quotation_mark = ascii "quot"

-- the character that an entity stands for
abbrev pub entity_char : Entity → ℕ
entity_char ampersand = ampersand_sign
entity_char less_than = less_than_sign
entity_char greater_than = greater_than_sign
entity_char apostrophe = single_quote
entity_char quotation_mark = double_quote

-- [67] Reference ::= EntityRef | CharRef
-- [68] EntityRef ::= '&' Name ';'
-- [66] CharRef ::= '&#' [0-9]+ ';' | '&#x' [0-9a-fA-F]+ ';'
pub data Reference : Type 0 where
  entity_ref : Entity → Reference
  decimal_ref : List ℕ → Reference
  hex_ref : List ℕ → Reference

unfoldable pub hex_digit : ℕ → Bool
hex_digit c = either (is_digit c) (either (from_to 65 70 c) (from_to 97 102 c))

-- what a digit stands for, in either case
unfoldable pub digit_value : ℕ → ℕ
digit_value c = cond (is_digit c) (c - 48) (cond (from_to 65 70 c) (c - 55) (c - 87))

-- the number that digits write behind those of the number v
unfoldable pub digits_value : ℕ → ℕ → List ℕ → ℕ
digits_value base v [] = v
digits_value base v (d ∷ ds) = digits_value base (v * base + digit_value d) ds

abbrev pub some_digits : (ℕ → Bool) → List ℕ → Bool
some_digits digit ds = both (not (no_chars ds)) (all digit ds)

-- 4.1, Legal Character: "Characters referred to using character references MUST match the production for Char."
unfoldable pub legal_reference : Reference → Bool
legal_reference (entity_ref e) = true
legal_reference (decimal_ref ds) = both (some_digits is_digit ds) (xml_char (digits_value 10 0 ds))
legal_reference (hex_ref ds) = both (some_digits hex_digit ds) (xml_char (digits_value 16 0 ds))

unfoldable pub written_reference : Reference → List ℕ
written_reference (entity_ref e) = ascii "&" ++ entity_name e ++ ascii ";"
written_reference (decimal_ref ds) = ascii "&#" ++ ds ++ ascii ";"
written_reference (hex_ref ds) = ascii "&#x" ++ ds ++ ascii ";"

-- the character that is referred to
unfoldable pub referred : Reference → ℕ
referred (entity_ref e) = entity_char e
referred (decimal_ref ds) = digits_value 10 0 ds
referred (hex_ref ds) = digits_value 16 0 ds
