use Prim.Native.Nat.{◌+◌}
use mathlib.Core.Path.{◌∙◌, ap}
use native.Mathlib.Omega.{arith}
use lib.ListN.{length, get_or, drop, length-append}
use Rattle.text.specs.Escape.{escaped, escape}
use Rattle.print.proofs.Pieces.{escape_at, escape_end}
use Rattle.print.proofs.text_longer.Goals as goal

pub loop-b-preserved : goal.loop-b-preserved
loop-b-preserved c =
    let t = c.args.text.now in
    let i = c.loop-b.b-index in
    let e = ap length (escape_at t i (omega arith)) ∙ length-append (escaped (get_or t i 0)) (escape (drop (i + 1) t)) in
    (omega arith, omega arith)

pub returns : goal.returns
returns c = omega (arith, ap length (escape_end c.args.text.now c.loop-b.b-index (omega arith)))
