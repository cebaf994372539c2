-- `text::walk` meets its contract. The loop's invariant: what is left is text exactly when the whole is, and the table is right.
use Prim.Native.Nat.{◌≤◌, ◌-◌}
use mathlib.Core.Path.{◌≡◌}
use lib.ListN.{length, drop}
use Rattle.text.specs.Check.{is_text}
use Rattle.text.proofs.Table.{Right}
use Rattle.text.proofs.walk.Given as goal

abbrev pub invariant-loop-at : goal.invariant-loop-at
invariant-loop-at l = (l.at ≤ length l.s) × ((is_text (drop l.at l.s) ≡ is_text l.s) × Right l.class)

abbrev pub decreases-loop-at : goal.decreases-loop-at
decreases-loop-at l = length l.s - l.at
