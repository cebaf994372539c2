-- An end tag as it is held: where in it a reader stands. Its name is in the line.
use Rattle.std.specs.Prelude.{[], length, drop}
use Rattle.base.specs.Bytes.{Bytes}
use Rattle.text.specs.Text.{encoded}
use Rattle.event.specs.Event.{closes}
use Rattle.markup.specs.Markup.{Meaning, means_event}
use Rattle.markup.specs.Automaton.{Moved, continues, completes, malformed, EndTagState, behind_end_slash, in_end_name, behind_end_name}
use Rattle.markup_tags.specs.Meanings.{meaning_kept}
use Rattle.markup_tags.specs.declared.end_tags.EndTagPlace.{EndTagPlace}
use Rattle.markup_tags.specs.declared.end_tags.EndTagPlace.TheVariants as P
use Rattle.markup_tags.specs.declared.end_tags.EndTagMoved.{EndTagMoved}
use Rattle.markup_tags.specs.declared.end_tags.EndTagMoved.TheVariants as M

unfoldable pub end_tag_line : EndTagState → Bytes
end_tag_line behind_end_slash = []
end_tag_line (in_end_name n) = encoded n
end_tag_line (behind_end_name n) = encoded n

abbrev pub end_tag_grown : EndTagState → Moved EndTagState Meaning → Bytes
end_tag_grown s (continues t) = drop (length (end_tag_line s)) (end_tag_line t)
end_tag_grown s (completes m) = []
end_tag_grown s malformed = []

unfoldable pub end_tag_kept : EndTagState → EndTagState
end_tag_kept behind_end_slash = behind_end_slash
end_tag_kept (in_end_name n) = in_end_name []
end_tag_kept (behind_end_name n) = behind_end_name []

abbrev pub end_tag_forgotten : Moved EndTagState Meaning → Moved EndTagState Meaning
end_tag_forgotten (continues s) = continues (end_tag_kept s)
end_tag_forgotten (completes m) = completes (meaning_kept m)
end_tag_forgotten malformed = malformed

abbrev pub end_tag_for : EndTagPlace → EndTagState
end_tag_for P.Slash = behind_end_slash
end_tag_for P.Name = in_end_name []
end_tag_for P.Behind = behind_end_name []

abbrev pub end_tag_moved : EndTagMoved → Moved EndTagState Meaning
end_tag_moved (M.Continues place) = continues (end_tag_for place)
end_tag_moved M.Completes = completes (means_event closes [])
end_tag_moved M.Malformed = malformed
