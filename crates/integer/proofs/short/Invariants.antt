-- `short` reads digits: the loop keeps that the digits read and the rest of the text give what the whole gives, and that k digits write a number below 10^k.
use Prim.Native.Nat.{◌<◌, ◌^◌}
use mathlib.Core.Path.{◌≡◌}
use lib.ListN.{drop}
use Rattle.integer.specs.Integer.{digits}
use Rattle.integer.proofs.Digits.{after}
use Rattle.integer.proofs.short.Given as goal

abbrev pub invariant-loop-b : goal.invariant-loop-b
invariant-loop-b l = (l.n < 10 ^ l.b-index) × (after l.n (drop l.b-index l.s) ≡ digits l.s)
