-- `copy_at` lends the rest from a place on to the writer; from the end on there is nothing to write.
use mathlib.Core.Path.{sym}
use Rattle.little.proofs.Overs.{over_lent_start, over_past}
use borrow.Author.Rules.{rules}
use Rattle.little.proofs.copy_at.Goals as goal

pub returns-then-at-out : goal.returns-then-at-out
returns-then-at-out c =
    let a = c.args in
    over_lent_start a.out.now _ a.at a.s.now (search rules) c.copy_in.ensures

pub returns-else-at-out : goal.returns-else-at-out
returns-else-at-out c = let a = c.args in sym (over_past a.out.now a.at a.s.now c.if-at-out.false)
