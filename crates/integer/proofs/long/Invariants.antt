-- `long` reads digits up to a bound: the loop keeps that the digits read and the rest of the text give what the whole gives.
use Prim.Native.Nat.{◌≤◌}
use mathlib.Core.Path.{◌≡◌}
use lib.ListN.{drop}
use Rattle.integer.specs.Integer.{digits}
use Rattle.integer.specs.Bounded.{at_most}
use Rattle.integer.proofs.Digits.{after}
use Rattle.integer.proofs.long.Given as goal

abbrev pub invariant-loop-b : goal.invariant-loop-b
invariant-loop-b l = (l.n ≤ l.most) × (at_most l.most (after l.n (drop l.b-index l.s)) ≡ at_most l.most (digits l.s))
