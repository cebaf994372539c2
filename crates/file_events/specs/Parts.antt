-- A file as it is written: texts and markups in turn, and the event lines that its markups stand for.
use Rattle.std.specs.Prelude.{ℕ, Bool, true, not, List, [], ◌∷◌, ◌++◌, eqb}
use Rattle.base.specs.Bytes.{Bytes, both, all}
use Rattle.text.specs.Text.{encoded}
use Rattle.event.specs.Event.{line_of}
use Rattle.markup.specs.Signs.{less_than_sign}
use Rattle.markup.specs.Markup.{Markup, Meaning, means_event, no_event, legal_markup_at, written_markup, meaning_of}
use Rattle.file_lexer.specs.declared.Before.{Before}
use Rattle.file_lexer.specs.declared.Before.TheVariants as B
use Rattle.file_lexer.specs.Lexing.{before_step, is_first}

pub data FilePart : Type 0 where
  -- "text up to the next `<` ignored unchecked"
  text_between : Bytes → FilePart
  markup_part : Markup → FilePart

abbrev pub written_part : FilePart → Bytes
written_part (text_between s) = s
written_part (markup_part m) = encoded (written_markup m)

unfoldable pub written_file : List FilePart → Bytes
written_file [] = []
written_file (p ∷ ps) = written_part p ++ written_file ps

-- what stands before what comes next
unfoldable pub before_text : Before → Bytes → Before
before_text before [] = before
before_text before (b ∷ s) = before_text (before_step before b) s

unfoldable pub before_behind : Before → FilePart → Before
before_behind before (text_between s) = before_text before s
before_behind before (markup_part m) = B.Text

-- a legal markup where it stands; the declaration stands at the beginning alone
unfoldable pub legal_at : Before → FilePart → Bool
legal_at before (text_between s) = all (λ b. not (eqb b less_than_sign)) s
legal_at before (markup_part m) = legal_markup_at (is_first before) m

unfoldable pub legal_file : Before → List FilePart → Bool
legal_file before [] = true
legal_file before (p ∷ ps) = both (legal_at before p) (legal_file (before_behind before p) ps)

-- the event line that a markup stands for, if any
abbrev pub lines_meant : Meaning → List Bytes
lines_meant (means_event e n) = line_of e ∷ []
lines_meant no_event = []

abbrev pub part_lines : FilePart → List Bytes
part_lines (text_between s) = []
part_lines (markup_part m) = lines_meant (meaning_of m)

unfoldable pub file_lines : List FilePart → List Bytes
file_lines [] = []
file_lines (p ∷ ps) = part_lines p ++ file_lines ps
