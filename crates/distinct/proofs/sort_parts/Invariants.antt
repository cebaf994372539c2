-- `sort_parts` sorts part by part. The invariant: the words only move, and the part that is not sorted yet begins within them.
use Prim.Native.Nat.{◌≤◌}
use mathlib.Core.Path.{◌≡◌}
use lib.ListN.{length}
use Rattle.std.specs.List.Sorted.{IsPermutation}
use Rattle.distinct.proofs.sort_parts.Given as goal

abbrev pub invariant-loop-to : goal.invariant-loop-to
invariant-loop-to l = record { moved : IsPermutation l.fn.words l.words; long : length l.words ≡ length l.fn.words; within : l.from ≤ l.to; near : l.from ≤ length l.fn.words }
