-- `put_held` prints the known version of a regression, else `-`.
use borrow.Author.Rules.{rules}
use mir.Facts.{to_z-of_z}
use mir.Syntax.{w32}
use mir.Val.{SFits}
use Rattle.text.specs.Escape.{escape, escaped}
use Rattle.roadlist_report.proofs.Reports.{known_printed, none_printed}
use Rattle.roadlist_report.proofs.put_held.Goals as goal

pub returns-in-Regression : goal.returns-in-Regression
returns-in-Regression c =
    let f : SFits w32 c.in-Regression.known = search rules in
    known_printed c.args.refusal c.in-Regression.known c.in-Regression.is (rw (c.from.ensures, to_z-of_z f) at c.put.ensures)

pub returns-in_default : goal.returns-in_default
unfolding escape escaped
returns-in_default c = none_printed c.args.refusal c.in_default.not-Regression c.put-in_default.ensures
