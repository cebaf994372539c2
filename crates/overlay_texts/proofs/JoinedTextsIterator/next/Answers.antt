-- The first text is as long as the first length, and what is left lies behind it.
use mathlib.Core.Path.{ap}
use native.Mathlib.Omega.{arith}
use lib.ListN.{length}
use Rattle.std.proofs.lemmas.List.{take_rest}
use Rattle.overlay_texts.proofs.Texts.{first_cut, no_cut}
use Rattle.overlay_texts.proofs.JoinedTextsIterator.next.Goals as goal

pub returns-in_err-first-clause-steps : goal.returns-in_err-first-clause-steps
returns-in_err-first-clause-steps c =
    let n = no_cut c.args.self.now.bytes.now c.args.self.now.lengths.now c.in_err-first.ensures.value in
    rw c.from_residual.ensures (n, n)

pub returns-clause-steps : goal.returns-clause-steps
returns-clause-steps c =
    let s = c.args.self.now in
    let p = first_cut s.bytes.now s.lengths.now _ _ c.in_ok-first.ensures.value c.lesser-n.ensures in
    simp take_rest p

pub returns-clause-goes : goal.returns-clause-goes
returns-clause-goes c =
    let s = c.args.self.now in
    let p = first_cut s.bytes.now s.lengths.now _ _ c.in_ok-first.ensures.value c.lesser-n.ensures in
    let q = ap length p in
    record { on = λ _. (tt, tt, simp take_rest (omega (arith, q))); keeps = tt; rests = λ _. tt }
