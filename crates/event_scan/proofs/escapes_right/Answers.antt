-- `escapes_right`: a value without a backslash is its own text.
use mathlib.Core.Path.{sym, ◌∙◌}
use Rattle.event_scan.proofs.Pieces.{right_bare}
use Rattle.event_scan.proofs.escapes_right.Goals as goal

pub returns-then-lacks : goal.returns-then-lacks
returns-then-lacks c = sym (right_bare _ (sym c.lacks.ensures ∙ c.if-lacks.true))
