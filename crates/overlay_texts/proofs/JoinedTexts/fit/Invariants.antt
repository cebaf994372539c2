-- `fit` takes the lengths away one by one. The invariant: what is left of the bytes and the lengths so far are all of the bytes.
use Prim.Native.Nat.{◌+◌}
use mathlib.Core.Path.{◌≡◌}
use lib.ListN.{length, take}
use Rattle.std.specs.List.{sum}
use Rattle.overlay_texts.proofs.JoinedTexts.fit.Given as goal

abbrev pub invariant-loop-n : goal.invariant-loop-n
invariant-loop-n l = l.rest + sum (take l.n-index l.self.lengths.now) ≡ length l.self.bytes.now
