-- `put_digits` writes the low digits of a number from the last to the first. The invariant: what is left to write are the low digits of what is left of the
-- number.
use Prim.Native.Nat.{◌≤◌}
use mathlib.Core.Path.{◌≡◌}
use lib.ListN.{length}
use Rattle.little.specs.Little.{over}
use Rattle.decimal.proofs.Numbers.{low_digits}
use Rattle.decimal.proofs.put_digits.Given as goal

abbrev pub invariant-loop-i : goal.invariant-loop-i
invariant-loop-i l = (l.i ≤ length l.initial.out) × ((length l.out ≡ length l.initial.out) × (over l.out 0 (low_digits l.i l.x) ≡ over l.initial.out 0 (low_digits (length l.initial.out) l.v)))

abbrev pub decreases-loop-i : goal.decreases-loop-i
decreases-loop-i l = l.i
