-- `text_longer` counts the escaped bytes. The invariant: the bytes passed, those counted and the escape of the rest are as many as the whole escape.
use Prim.Native.Nat.{◌+◌, ◌≤◌}
use mathlib.Core.Path.{◌≡◌}
use lib.ListN.{length, drop}
use Rattle.text.specs.Escape.{escape}
use Rattle.print.proofs.text_longer.Given as goal

abbrev pub invariant-loop-b : goal.invariant-loop-b
invariant-loop-b l = (l.n ≤ l.b-index) × (l.b-index + l.n + length (escape (drop l.b-index l.text)) ≡ length (escape l.text))
