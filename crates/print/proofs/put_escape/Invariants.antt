-- `put_escape` writes the escape of each byte behind the last. The invariant: the escape of the rest, written from there on, makes the whole, and fits.
use Prim.Native.Nat.{◌+◌, ◌≤◌}
use mathlib.Core.Path.{◌≡◌}
use lib.ListN.{length, drop}
use Rattle.text.specs.Escape.{escape}
use Rattle.little.specs.Little.{over}
use Rattle.print.proofs.put_escape.Given as goal

abbrev pub invariant-loop-b : goal.invariant-loop-b
invariant-loop-b l =
    (over l.out l.at (escape (drop l.b-index l.text)) ≡ over l.initial.out 0 (escape l.text))
    × (l.at + length (escape (drop l.b-index l.text)) ≤ length l.out)
