-- The row that the search finds, or none.
use mathlib.Core.Path.{◌∙◌}
use mir.Val.{to_z}
use mir.Syntax.{w64}
use Rattle.kind_reading.proofs.Standings.{standing_there, standing_nowhere}
use Rattle.kind_reading.proofs.known_standing.Goals as goal

pub returns-in-Some : goal.returns-in-Some
returns-in-Some c =
    let s = c.args.storage.now in
    c.from.ensures ∙ standing_there s.table.now s.ids (to_z w64 c.args.id) c.in-Some.row (rw (c.rows.ensures.0, c.rows.ensures.1, c.rank_of_bits.ensures) at c.in-Some.ensures)

pub returns-in-None : goal.returns-in-None
returns-in-None c =
    let s = c.args.storage.now in
    standing_nowhere s.table.now s.ids (to_z w64 c.args.id) (rw (c.rows.ensures.0, c.rows.ensures.1, c.rank_of_bits.ensures) at c.in-None.ensures)
