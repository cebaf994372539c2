-- The piece is joined to what is held, its lines are taken in, and the rest is kept.
use mathlib.Core.Path.{◌≡◌}
use native.Mathlib.Omega.{arith}
use Prim.Native.Nat.{◌+◌}
use lib.ListN.{length}
use Rattle.reader.specs.Lent.{state_held}
use Rattle.input_pieces.proofs.Fronts.{fed_by}
use Rattle.input_pieces.proofs.take_piece.Goals as goal

pub returns-clause-value : goal.returns-clause-value
returns-clause-value c =
    λ g.
    let a = c.args in
    let j = c.join_piece-n in
    let are : j.result ≡ a.held + length a.piece.now = omega (arith, j.ensures.value, c.requires) in
    let w = c.events_untested-done in
    fed_by (state_held a.state.now) a.buffer.now a.piece.now a.held c.requires _ j.result j.ensures.buffer_after are _ w.result.taken (w.ensures.answer_value g) (w.ensures.taken_value g) _ _ c.keep_front-held.ensures
