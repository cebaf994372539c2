-- `write` goes from piece to piece. The invariant: the text of the rest is still to come.
use Prim.Native.Nat.{◌+◌, ◌≤◌}
use mathlib.Core.Path.{◌≡◌}
use mathlib.Core.Bool.{true}
use lib.ListN.{length}
use Rattle.text.specs.Escape.{unescape}
use Rattle.little.proofs.Overs.{Writing}
use Rattle.event_scan.specs.Piece.{there, value_text}
use Rattle.event_scan.proofs.write.Given as goal

abbrev pub invariant-loop-piece : goal.invariant-loop-piece
invariant-loop-piece l =
    (l.n + length l.rest ≤ length l.v) × (there (unescape l.rest) ≡ true) × Writing l.initial.out (value_text l.v) l.out l.n (value_text l.rest) × (l.n + length (value_text l.rest) ≡ length (value_text l.v))

abbrev pub decreases-loop-piece : goal.decreases-loop-piece
decreases-loop-piece l = length l.rest
