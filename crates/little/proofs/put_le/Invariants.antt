-- `put_le` writes the low bytes of a number, the lowest first. The invariant: the bytes still to come are those of what is left of the number.
use Prim.Native.Nat.{◌-◌}
use Rattle.little.specs.Little.{le}
use Rattle.little.proofs.Overs.{Writing}
use Rattle.little.proofs.put_le.Given as goal

abbrev pub invariant-loop-b : goal.invariant-loop-b
invariant-loop-b l = Writing l.initial.part (le l.n l.v) l.part l.b-index (le (l.n - l.b-index) l.x)
