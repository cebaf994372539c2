-- `number` reads from the highest byte down. The invariant: what it holds is the number of the bytes that it read.
use Rattle.std.proofs.Common.{◌≡◌, ◌-◌, length, drop}
use Rattle.little.specs.Little.{value}
use Rattle.little.proofs.number.Given as goal

abbrev pub invariant-loop-b : goal.invariant-loop-b
invariant-loop-b l = l.r ≡ value (drop (length l.s - length l.yielded) l.s)
