-- A markup as it is held between two characters: where in it a reader stands. What it has read of names and values is in the line of its event, and is forgotten here.
use Rattle.std.specs.Prelude.{◌≡◌, [], ◌∷◌, ◌++◌, length, drop}
use Rattle.base.specs.Bytes.{Bytes}
use Rattle.base.specs.Chars.{horizontal_tab, line_feed}
use Rattle.event.specs.Event.{starts, closes, others, start_word, line_of}
use Rattle.markup.specs.Markup.{Meaning, means_event, no_event}
use Rattle.markup.specs.Automaton.{Moved, continues, completes, malformed, MarkupState, before_markup, behind_less_than_sign, in_start_tag, in_end_tag, in_bang, in_instruction}
use Rattle.markup_tags.specs.Meanings.{meaning_kept}
use Rattle.markup_tags.specs.StartTags.{attrs_line, start_tag_line, start_tag_kept, start_tag_for}
use Rattle.markup_tags.specs.EndTags.{end_tag_line, end_tag_kept, end_tag_for}
use Rattle.markup_skipped.specs.Comments.{comment_for}
use Rattle.markup_skipped.specs.Instructions.{instruction_kept, instruction_for}
use Rattle.markup_steps.specs.declared.Ended.{Ended}
use Rattle.markup_steps.specs.declared.Ended.TheVariants as E
use Rattle.markup_steps.specs.declared.MarkupPlace.{MarkupPlace}
use Rattle.markup_steps.specs.declared.MarkupPlace.TheVariants as P
use Rattle.markup_steps.specs.declared.MarkupMoved.{MarkupMoved}
use Rattle.markup_steps.specs.declared.MarkupMoved.TheVariants as M

-- ---- what stands in the line: of a start tag `NAME⇥attr=value..`, of an end tag its name

unfoldable pub markup_line : MarkupState → Bytes
markup_line (before_markup first) = []
markup_line (behind_less_than_sign first) = []
markup_line (in_start_tag s) = start_tag_line s
markup_line (in_end_tag s) = end_tag_line s
markup_line (in_bang s) = []
markup_line (in_instruction s) = []

-- what a step adds to it
abbrev pub markup_grown : MarkupState → Moved MarkupState Meaning → Bytes
markup_grown s (continues t) = drop (length (markup_line s)) (markup_line t)
markup_grown s (completes m) = []
markup_grown s malformed = []

-- what stands in the line at the end of a markup
abbrev pub meant_line : Meaning → Bytes
meant_line (means_event (starts empty n attrs) m) = n ++ attrs_line attrs
meant_line (means_event closes m) = m
meant_line (means_event others m) = []
meant_line no_event = []

-- that is the line of a start tag's event, without its first word and its line feed, and the name of an end tag
abbrev pub LineMeant : Meaning → Bytes → Type 0
LineMeant (means_event (starts empty n attrs) m) s = line_of (starts empty n attrs) ≡ start_word empty ++ (horizontal_tab ∷ (s ++ (line_feed ∷ [])))
LineMeant (means_event closes m) s = m ≡ s
LineMeant (means_event others m) s = Unit {0}
LineMeant no_event s = Unit {0}

-- ---- what is forgotten

unfoldable pub markup_kept : MarkupState → MarkupState
markup_kept (before_markup first) = before_markup first
markup_kept (behind_less_than_sign first) = behind_less_than_sign first
markup_kept (in_start_tag s) = in_start_tag (start_tag_kept s)
markup_kept (in_end_tag s) = in_end_tag (end_tag_kept s)
markup_kept (in_bang s) = in_bang s
markup_kept (in_instruction s) = in_instruction (instruction_kept s)

abbrev pub markup_forgotten : Moved MarkupState Meaning → Moved MarkupState Meaning
markup_forgotten (continues s) = continues (markup_kept s)
markup_forgotten (completes m) = completes (meaning_kept m)
markup_forgotten malformed = malformed

-- ---- what is held

abbrev pub markup_for : MarkupPlace → MarkupState
markup_for (P.Begun first) = behind_less_than_sign first
markup_for (P.StartTag place) = in_start_tag (start_tag_for place)
markup_for (P.EndTag place) = in_end_tag (end_tag_for place)
markup_for (P.Bang place) = in_bang (comment_for place)
markup_for (P.Instruction place) = in_instruction (instruction_for place)

abbrev pub ended_meaning : Ended → Meaning
ended_meaning (E.StartTag empty) = means_event (starts empty [] []) []
ended_meaning E.EndTag = means_event closes []
ended_meaning E.Skipped = no_event

abbrev pub markup_moved : MarkupMoved → Moved MarkupState Meaning
markup_moved (M.Continues place) = continues (markup_for place)
markup_moved (M.Completes ended) = completes (ended_meaning ended)
markup_moved M.Malformed = malformed
