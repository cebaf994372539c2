-- `many_stand`: attributes alone, and no name twice.
use Rattle.std.proofs.Common.{sym, ◌∙◌}
use Rattle.event_scan.proofs.Standing.{stand_good, stand_bad}
use Rattle.event_scan.proofs.event_line.many_stand.Goals as goal

pub returns-then-all_right : goal.returns-then-all_right
returns-then-all_right c = c.once.ensures ∙ sym (stand_good _ (sym c.all_right.ensures ∙ c.if-all_right.true))

pub returns-else-all_right : goal.returns-else-all_right
returns-else-all_right c = c.if-all_right.false ∙ stand_bad _ (sym c.all_right.ensures ∙ c.if-all_right.false)
