-- Each byte's escape is written at the start of what is behind the last.
use Prim.Native.Nat.{ℕ, ◌+◌, ◌<◌}
use mathlib.Core.Path.{◌≡◌, sym, ◌∙◌, ap}
use native.Mathlib.Omega.{arith}
use lib.ListN.{length, get_or, drop, length-append, length-take, length-drop}
use Rattle.base.specs.Bytes.{Bytes}
use Rattle.text.specs.Escape.{escaped, escape}
use Rattle.little.specs.Little.{over}
use Rattle.little.proofs.Overs.{over_nothing, over_over, length_over, over_lent_start}
use Rattle.print.proofs.Pieces.{escape_at, escape_end}
use Rattle.print.proofs.put_escape.Goals as goal

-- the escape of the rest begins with that of the next byte
next : (t : Bytes) (i : ℕ) → i < length t → length (escape (drop i t)) ≡ length (escaped (get_or t i 0)) + length (escape (drop (i + 1) t))
next t i h = ap length (escape_at t i h) ∙ length-append (escaped (get_or t i 0)) (escape (drop (i + 1) t))

pub put_escaped-at-requires : goal.put_escaped-at-requires
put_escaped-at-requires c = simp (length-take, length-drop) (omega (arith, next c.args.text.now c.loop-b.b-index (omega arith), c.loop-b.invariant.1))

pub overflow_add-at : goal.overflow_add-at
overflow_add-at c = omega (arith, next c.args.text.now c.loop-b.b-index (omega arith), c.loop-b.invariant.1, c.put_escaped-at.ensures.1)

pub loop-b-preserved : goal.loop-b-preserved
loop-b-preserved c =
    let t = c.args.text.now in
    let l = c.loop-b in
    let x = escaped (get_or t l.b-index 0) in
    let y = escape (drop (l.b-index + 1) t) in
    let n = next t l.b-index (omega arith) in
    let w = c.put_escaped-at.ensures in
    rw (over_lent_start l.out _ l.at x (omega (arith, l.invariant.1)) w.0, w.1) (
      rw (over_over, ← escape_at t l.b-index (omega arith)) l.invariant.0,
      rw length_over (omega (arith, n, l.invariant.1)),
    )

pub returns : goal.returns
returns c =
    let l = c.loop-b in
    sym (over_nothing l.out l.at) ∙ (ap (over l.out l.at) (sym (escape_end c.args.text.now l.b-index (omega arith))) ∙ l.invariant.0)
