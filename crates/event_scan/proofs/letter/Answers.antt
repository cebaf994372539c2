-- `letter`: the four letters of an escape.
use native.Mathlib.Omega.{arith}
use borrow.Author.Tests.{ne_eqb}
use Rattle.text.specs.Escape.{meaning}
use Rattle.event_scan.proofs.letter.Goals as goal

pub returns-in-116 : goal.returns-in-116
unfolding meaning
returns-in-116 c = rw c.in-116.is

pub returns-in-110 : goal.returns-in-110
unfolding meaning
returns-in-110 c = rw c.in-110.is

pub returns-in-114 : goal.returns-in-114
unfolding meaning
returns-in-114 c = rw c.in-114.is

pub returns-in-92 : goal.returns-in-92
unfolding meaning
returns-in-92 c = rw c.in-92.is

pub returns-in_default : goal.returns-in_default
unfolding meaning
returns-in_default c =
    let m = c.args.m in
    rw (ne_eqb m 116 (omega arith), ne_eqb m 110 (omega arith), ne_eqb m 114 (omega arith), ne_eqb m 92 (omega arith))
