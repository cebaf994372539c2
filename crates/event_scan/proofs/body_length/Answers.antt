-- `body_length`: one less where the last byte is a line feed.
use Prim.Native.Nat.{◌-◌}
use mathlib.Core.Path.{sym}
use native.Mathlib.Omega.{arith}
use lib.ListN.{length}
use lib.Seq.{length-take-le}
use Rattle.event_scan.proofs.Lines.{ended_some, ended_none, judged}
use Rattle.event_scan.proofs.body_length.Goals as goal

pub returns-then-n-eq0 : goal.returns-then-n-eq0
returns-then-n-eq0 c = omega (arith, (judged c.args.line.now).within)

pub returns-then-line-n-eq10 : goal.returns-then-line-n-eq10
returns-then-line-n-eq10 c =
    let s = c.args.line.now in
    rw (ended_some s (omega arith) c.if-line-n-eq10.true) (sym (length-take-le (length s - 1) s (omega arith)))

pub returns : goal.returns
returns c = rw (ended_none c.args.line.now c.if-line-n-eq10.false)
