-- Runs of plain bytes, which are passed over many at a time: where they leave a reader.
use Rattle.std.specs.Prelude.{ℕ, Bool, false, not, [], ◌∷◌, eqb}
use Rattle.base.specs.Bytes.{Bytes, both, either}
use Rattle.text.specs.Char.{from_to}
use Rattle.markup.specs.Markup.{QuoteMark}
use Rattle.markup.specs.Automaton.{MarkupState, in_start_tag, in_end_tag, in_bang, in_instruction, in_name, in_attribute_name, in_attribute_value}
use Rattle.markup.specs.Automaton.{in_value, in_end_name, in_comment, in_data}
use Rattle.markup.specs.MarkupBytes.{at_char}
use Rattle.markup_tags.specs.StartTags.{no_parts}
use Rattle.file_lexer.specs.Lexing.{between, within, Lexing, counted}
use Rattle.file_lexer.specs.Line.{Line}
use Rattle.file_lexer.specs.declared.Before.TheVariants as B

-- from the blank to the tilde, but for one byte
unfoldable pub plain_but : ℕ → ℕ → Bool
plain_but stop b = both (from_to 0x20 0x7e b) (not (eqb b stop))

-- in a value: no quote mark, `&`, `<` and backslash
unfoldable pub plain_of_value : ℕ → ℕ → Bool
plain_of_value quote b = both (both (both (plain_but quote b) (not (eqb b 38))) (not (eqb b 60))) (not (eqb b 92))

-- in a name: a letter of ASCII, or `_`
unfoldable pub plain_of_name : ℕ → Bool
plain_of_name b = either (either (from_to 0x61 0x7a b) (from_to 0x41 0x5a b)) (eqb b 0x5f)

-- the line feeds after a run
unfoldable pub counted_on : ℕ → Bytes → ℕ
counted_on lines [] = lines
counted_on lines (b ∷ s) = counted_on (counted b lines) s

-- a lexer between markups, and one within a markup between two characters
abbrev pub in_text : ℕ → ℕ → Line → Lexing
in_text feeds lines line = record { place = between B.Text; feeds = feeds; lines = lines; bytes = line.bytes; used = line.used }

abbrev pub in_markup : MarkupState → ℕ → ℕ → Line → Lexing
in_markup p feeds lines line = record { place = within (at_char p); feeds = feeds; lines = lines; bytes = line.bytes; used = line.used }

-- where plain bytes leave a reader where it is
abbrev pub value_state : QuoteMark → MarkupState
value_state q = in_start_tag (in_attribute_value no_parts [] q (in_value false []))

abbrev pub name_state : MarkupState
name_state = in_start_tag (in_name [])

abbrev pub attribute_name_state : MarkupState
attribute_name_state = in_start_tag (in_attribute_name no_parts [])

abbrev pub end_name_state : MarkupState
end_name_state = in_end_tag (in_end_name [])

abbrev pub comment_state : MarkupState
comment_state = in_bang (in_comment false)

abbrev pub data_state : MarkupState
data_state = in_instruction (in_data false)
