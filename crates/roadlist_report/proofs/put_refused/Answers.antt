-- The pieces of the line are together the line.
use Rattle.roadlist_report.proofs.Reports.{pieces_joined}
use Rattle.roadlist_report.proofs.put_refused.Goals as goal

pub returns : goal.returns
returns c = rw (← pieces_joined c.args.refusal c.args.line) c.print_whole.ensures
