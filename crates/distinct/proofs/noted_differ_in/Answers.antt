-- `noted_differ_in`: what was noted, and what is told of it.
use native.Mathlib.Omega.{arith}
use Rattle.distinct.proofs.Orders.{right_as}
use Rattle.distinct.proofs.noted_differ_in.Goals as goal

pub returns-in-Some : goal.returns-in-Some
returns-in-Some g c =
    let z = c.in-Some.ensures in
    right_as _ _ _ ((rw (← c.bytes-bytes.ensures) at z) (omega arith) c.if-n-words.true) c.sorted_differ.ensures
