-- A comment's state as it is held: the same as the automaton's, since it has no texts.
use Rattle.markup.specs.Markup.{Meaning, no_event}
use Rattle.markup.specs.Automaton.{Moved, continues, completes, malformed, CommentState, behind_bang, behind_bang_hyphen, in_comment, behind_two_hyphens}
use Rattle.markup_skipped.specs.declared.Moved as Held
use Rattle.markup_skipped.specs.declared.Moved.TheVariants as M
use Rattle.markup_skipped.specs.declared.comments.CommentPlace.{CommentPlace}
use Rattle.markup_skipped.specs.declared.comments.CommentPlace.TheVariants as P

abbrev pub comment_for : CommentPlace → CommentState
comment_for P.Bang = behind_bang
comment_for P.Hyphen = behind_bang_hyphen
comment_for (P.Inside hyphen) = in_comment hyphen
comment_for P.TwoHyphens = behind_two_hyphens

abbrev pub comment_moved : Held.Moved CommentPlace → Moved CommentState Meaning
comment_moved (M.Continues place) = continues (comment_for place)
comment_moved M.Completes = completes no_event
comment_moved M.Malformed = malformed
