-- `pieces_right` goes from piece to piece. The invariant: the rest decides.
use mathlib.Core.Path.{◌≡◌}
use lib.ListN.{length}
use Rattle.text.specs.Escape.{unescape}
use Rattle.event_scan.specs.Piece.{there}
use Rattle.event_scan.proofs.pieces_right.Given as goal

abbrev pub invariant-loop-piece : goal.invariant-loop-piece
invariant-loop-piece l = there (unescape l.rest) ≡ there (unescape l.v)

abbrev pub decreases-loop-piece : goal.decreases-loop-piece
decreases-loop-piece l = length l.rest
