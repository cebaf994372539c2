-- `rises` goes from neighbours to neighbours. The invariant: what is left is the end of the words, and the runs rise as far as its first word.
use Prim.Native.Nat.{◌+◌, ◌-◌, ◌≤◌}
use mathlib.Core.Path.{◌≡◌}
use lib.ListN.{length, drop}
use Rattle.std.specs.Slice.Iter.{windows_rest, windows_size}
use Rattle.std.specs.Slice.ArrayWindows.{array_windows_parts}
use Rattle.distinct.specs.Check.{Rises}
use Rattle.distinct.proofs.rises.Given as goal

abbrev pub invariant-loop-v : goal.invariant-loop-v
invariant-loop-v l =
    let windows = array_windows_parts l.v-iterator in
    let rest = windows_rest windows in
    let i = length l.words - length rest in
    record { two : windows_size windows ≡ 2; within : length rest ≤ length l.words; end : rest ≡ drop i l.words; rise : Rises l.bytes l.words (i + 1) }
