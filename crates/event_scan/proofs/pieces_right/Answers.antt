use mathlib.Core.Path.{sym, ◌∙◌}
use native.Mathlib.Omega.{arith}
use lib.ListN.{length-drop}
use Rattle.event_scan.proofs.Pieces.{Turn, turn, right_ends}
use Rattle.event_scan.proofs.pieces_right.Goals as goal

-- the piece that the rest begins with
stood : (c : goal.In-Some)
    → Turn c.loop-piece.rest.now c.in-Some.piece
stood c = turn _ _ (sym c.first_piece.ensures ∙ c.in-Some.is)

pub slice_bounds-rest-count : goal.slice_bounds-rest-count
slice_bounds-rest-count c = (stood c).within

pub slice_bounds-rest-start : goal.slice_bounds-rest-start
slice_bounds-rest-start c = (stood c).within

pub loop-piece-smaller : goal.loop-piece-smaller
loop-piece-smaller c =
    let d : Turn c.loop-piece.rest.now c.in-Some.piece = turn _ _ (sym c.first_piece.ensures ∙ c.in-Some.is) in
    rw d.behind (omega (arith, d.forward, d.within, length-drop c.in-Some.piece.size c.loop-piece.rest.now))

pub loop-piece-preserved : goal.loop-piece-preserved
loop-piece-preserved c =
    let d : Turn c.loop-piece.rest.now c.in-Some.piece = turn _ _ (sym c.first_piece.ensures ∙ c.in-Some.is) in
    rw d.behind (d.right ∙ c.loop-piece.invariant)

pub returns : goal.returns
returns c = c.is_empty.ensures ∙ right_ends _ (sym c.first_piece.ensures ∙ c.in_default.is) ∙ c.loop-piece.invariant
