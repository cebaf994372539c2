use mathlib.Core.Path.{sym, ◌∙◌, ap}
use mathlib.Core.Logic.{inl}
use native.Mathlib.Omega.{arith}
use lib.ListN.{length, length-drop}
use Rattle.little.proofs.Overs.{written}
use Rattle.event_scan.proofs.Pieces.{Turn, turn, text_ends, put_on}
use Rattle.event_scan.proofs.write.Goals as goal

pub slice_bounds-rest-count : goal.slice_bounds-rest-count
slice_bounds-rest-count c = (turn _ _ (sym c.first_piece.ensures ∙ c.in-Some.is)).within

pub slice_bounds-rest-start : goal.slice_bounds-rest-start
slice_bounds-rest-start c = (turn _ _ (sym c.first_piece.ensures ∙ c.in-Some.is)).within

pub loop-piece-smaller : goal.loop-piece-smaller
loop-piece-smaller c =
    let d : Turn c.loop-piece.rest.now c.in-Some.piece = turn _ _ (sym c.first_piece.ensures ∙ c.in-Some.is) in
    rw d.behind (omega (arith, d.forward, d.within, length-drop c.in-Some.piece.size c.loop-piece.rest.now))

pub loop-piece-preserved : goal.loop-piece-preserved
loop-piece-preserved c =
    let l = c.loop-piece in
    let d : Turn l.rest.now c.in-Some.piece = turn _ _ (sym c.first_piece.ensures ∙ c.in-Some.is) in
    let e = d.text l.invariant.1 in
    rw d.behind (
      omega (arith, d.forward, d.within, l.invariant.0, length-drop c.in-Some.piece.size l.rest.now),
      d.right ∙ l.invariant.1,
      rw c.put.ensures (put_on l.out l.n _ e l.invariant.2),
      omega (arith, ap length e, l.invariant.3),
    )

pub returns : goal.returns
returns c =
    let l = c.loop-piece in
    let e = text_ends _ (sym c.first_piece.ensures ∙ c.in_default.is) in
    (written l.out l.n _ l.invariant.2 (inl e), omega (arith, ap length e, l.invariant.3))
