-- `put` stores a byte, where there is a place for it.
use mathlib.Core.Path.{sym}
use lib.Seq.{set_out}
use Rattle.event_scan.proofs.put.Goals as goal

pub returns-else-at-out : goal.returns-else-at-out
returns-else-at-out c = let a = c.args in sym (set_out a.out.now a.at a.b c.if-at-out.false)
