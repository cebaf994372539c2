-- XML 1.0, 3, Element Type Match: "The Name in an element's end-tag MUST match the element type in the start-tag."
use Rattle.std.specs.Prelude.{◌≡◌, ◌⊎◌, Bool, true, false, List, [], ◌∷◌, None, Option, Some, Ok}
use Rattle.base.specs.Bytes.{Bytes}
use Rattle.text.specs.Text.{encoded}
use Rattle.markup.specs.Markup.{Markup, start_tag, end_tag, comment, instruction, declaration}
use Rattle.file_reader.specs.File.{FileState, is_open, file_bytes}
use Rattle.file_events.specs.Parts.{FilePart, text_between, markup_part, written_part}

abbrev pub behind_innermost : List Bytes → List Bytes
behind_innermost [] = []
behind_innermost (n ∷ names) = names

abbrev pub with_start : Bool → Bytes → List Bytes → List Bytes
with_start false n names = n ∷ names
with_start true n names = names

-- the names of the elements that are open, the innermost first
abbrev pub part_opens : FilePart → List Bytes → List Bytes
part_opens (text_between s) names = names
part_opens (markup_part (start_tag empty n xs gap)) names = with_start empty (encoded n) names
part_opens (markup_part (end_tag n gap)) names = behind_innermost names
part_opens (markup_part (comment ps)) names = names
part_opens (markup_part (instruction t gap cs)) names = names
part_opens (markup_part (declaration d)) names = names

unfoldable pub open_names : List FilePart → List Bytes → List Bytes
open_names [] names = names
open_names (p ∷ ps) names = open_names ps (part_opens p names)

abbrev pub innermost : List Bytes → Option Bytes
innermost [] = None
innermost (n ∷ names) = Some n

-- "an end tag with none open or whose name is not the open one's"
abbrev pub IsUnmatchedName : FilePart → List Bytes → Type 0
IsUnmatchedName (text_between s) names = ⊥
IsUnmatchedName (markup_part (start_tag empty n xs gap)) names = ⊥
IsUnmatchedName (markup_part (end_tag n gap)) names = is_open (encoded n) (innermost names) ≡ false
IsUnmatchedName (markup_part (comment ps)) names = ⊥
IsUnmatchedName (markup_part (instruction t gap cs)) names = ⊥
IsUnmatchedName (markup_part (declaration d)) names = ⊥

-- a part of a file that is so, where all before it is accepted
abbrev pub UnmatchedName : List FilePart → List Bytes → FileState → Type 0
UnmatchedName [] names f = ⊥
UnmatchedName (p ∷ ps) names f =
    IsUnmatchedName p names ⊎ (((file_bytes (written_part p) f).answer ≡ Ok tt) × UnmatchedName ps (part_opens p names) (file_bytes (written_part p) f).file)
