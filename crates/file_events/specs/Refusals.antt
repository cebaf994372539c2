-- Where in a file of legal markups 25 and 26 are given.
use Rattle.std.specs.Prelude.{◌≡◌, ◌≤◌, ◌⊎◌, true, false, List, [], ◌∷◌, length, take, Ok}
use Rattle.line.specs.Line.{tabbed}
use Rattle.event.specs.Event.{starts, closes, others, none_twice, event_fields}
use Rattle.text.specs.Text.{encoded}
use Rattle.markup.specs.Markup.{Markup, start_tag, end_tag, comment, instruction, declaration, Meaning, means_event, no_event, meaning_of}
use Rattle.file_reader.specs.File.{FileState, open_name, is_open, file_bytes}
use Rattle.file_events.specs.Parts.{FilePart, text_between, markup_part, written_part}

-- a part of a file that is so, where all before it is accepted
abbrev pub AtPart : (FilePart → FileState → Type 0) → List FilePart → FileState → Type 0
AtPart Is [] f = ⊥
AtPart Is (p ∷ ps) f = Is p f ⊎ (((file_bytes (written_part p) f).answer ≡ Ok tt) × AtPart Is ps (file_bytes (written_part p) f).file)

-- "25 markup not well formed by itself": XML 1.0, 3.1, Unique Att Spec. "2 goes first only where the line is too long to be held"
abbrev pub MeansTwice : Meaning → Type 0
MeansTwice (means_event (starts empty n attrs) a) = (length (tabbed (event_fields (starts empty n attrs))) ≤ 16384) × (none_twice attrs ≡ false)
MeansTwice (means_event closes a) = ⊥
MeansTwice (means_event others a) = ⊥
MeansTwice no_event = ⊥

abbrev pub IsTwice : FilePart → FileState → Type 0
IsTwice (text_between s) f = ⊥
IsTwice (markup_part m) f = MeansTwice (meaning_of m)

-- "26 unmatched end tag: an end tag with none open or whose name is not the open one's"
abbrev pub IsUnmatched : FilePart → FileState → Type 0
IsUnmatched (text_between s) f = ⊥
IsUnmatched (markup_part (start_tag empty n xs gap)) f = ⊥
IsUnmatched (markup_part (end_tag n gap)) f = is_open (take 16380 (encoded n)) (open_name f) ≡ false
IsUnmatched (markup_part (comment ps)) f = ⊥
IsUnmatched (markup_part (instruction t gap cs)) f = ⊥
IsUnmatched (markup_part (declaration d)) f = ⊥
