-- The bytes that count are taken in.
use mathlib.Core.Path.{◌≡◌, ◌∙◌}
use native.Mathlib.Omega.{arith}
use borrow.Author.Rules.{rules}
use lib.ListN.{length, take, length-take}
use Rattle.std.proofs.lemmas.List.{take_min}
use Rattle.reader.specs.Lent.{state_held}
use Rattle.input_pieces.proofs.Fronts.{fed_from}
use Rattle.input_pieces.proofs.feed.Goals as goal

pub take_piece-answer-requires : goal.take_piece-answer-requires
take_piece-answer-requires c =
    let long : length c.args.input.now.bytes.now ≡ 81920 = search rules in
    omega (arith, c.lesser-held.ensures, length-take c.lesser.result c.args.piece.now, c.lesser.ensures, long)

pub returns-clause-value : goal.returns-clause-value
returns-clause-value c =
    λ g.
    let a = c.args in
    let e : take c.lesser.result a.piece.now ≡ take 65536 a.piece.now = rw c.lesser.ensures (take_min 65536 a.piece.now) in
    c.take_piece-answer.ensures.value g ∙ fed_from (state_held a.state.now) a.input.now.bytes.now e c.lesser-held.ensures
