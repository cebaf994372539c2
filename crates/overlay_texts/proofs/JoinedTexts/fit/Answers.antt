-- `fit` ends at the first length that is longer than what is left, or with nothing left where they add up.
use mathlib.Core.Path.{sym}
use native.Mathlib.Omega.{arith}
use Rattle.overlay_texts.proofs.Texts.{fit_over, fit_end}
use Rattle.overlay_texts.proofs.JoinedTexts.fit.Goals as goal

pub returns-in-None : goal.returns-in-None
returns-in-None c =
    let s = c.args.self.now in
    let e = c.in-None.ensures in
    sym (fit_over s.lengths.now s.bytes.now c.loop-n.n-index c.loop-n.rest c.loop-n.invariant c.loop-n-test.true (omega (arith, e)))

pub returns : goal.returns
returns c = let s = c.args.self.now in fit_end s.lengths.now s.bytes.now c.loop-n.n-index c.loop-n.rest c.loop-n.invariant c.loop-n-test.false
