-- `letter` asks for the escaped bytes in turn.
use native.Mathlib.Omega.{arith}
use borrow.Author.Tests.{ne_eqb}
use Rattle.text.specs.Escape.{escaped}
use Rattle.print.proofs.letter.Goals as goal

pub returns-in-9 : goal.returns-in-9
unfolding escaped
returns-in-9 c = rw c.in-9.is

pub returns-in-10 : goal.returns-in-10
unfolding escaped
returns-in-10 c = rw c.in-10.is

pub returns-in-13 : goal.returns-in-13
unfolding escaped
returns-in-13 c = rw c.in-13.is

pub returns-in-92 : goal.returns-in-92
unfolding escaped
returns-in-92 c = rw c.in-92.is

pub returns-in_default : goal.returns-in_default
unfolding escaped
returns-in_default c =
    let b = c.args.b in
    rw (ne_eqb b 9 (λ e. omega arith), ne_eqb b 10 (λ e. omega arith), ne_eqb b 13 (λ e. omega arith), ne_eqb b 92 (λ e. omega arith))
