-- The first line ends behind the first line feed.
use Rattle.std.proofs.Common.{rules, length, arith, ap}
use Rattle.std.proofs.lemmas.List.{take_rest}
use native.Mathlib.Numerals.{add-one}
use Rattle.input_lines.proofs.Places.{first_line, no_line}
use Rattle.input_lines.proofs.RunLinesIterator.next.Goals as goal

pub returns-in_err-i-clause-steps : goal.returns-in_err-i-clause-steps
returns-in_err-i-clause-steps c =
    let n = no_line c.args.self.now.rest.now (search rules) in
    rw c.from_residual.ensures (n, n)

pub returns-clause-steps : goal.returns-clause-steps
returns-clause-steps c =
    let p = first_line c.args.self.now.rest.now c.in_ok-i.i (search rules) (search rules) (search rules) in
    simp (take_rest, add-one) p

pub returns-clause-goes : goal.returns-clause-goes
returns-clause-goes c =
    let p = first_line c.args.self.now.rest.now c.in_ok-i.i (search rules) (search rules) (search rules) in
    let q = ap length p in
    record { on = λ _. (tt, tt, simp (take_rest, add-one) (omega (arith, q))); keeps = tt; rests = λ _. tt }
