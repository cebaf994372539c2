-- The row that the search finds, with what it says, or the place of a new one.
use mathlib.Core.Path.{◌≡◌, ◌∙◌}
use mir.Val.{to_z}
use mir.Syntax.{w64}
use Rattle.osm_id.specs.Order.{rank}
use Rattle.std.specs.Prelude.{None, Some}
use Rattle.kind_table.specs.Words.{lookup, row_found}
use Rattle.kind_table.proofs.Tables.{row_looked_up}
use Rattle.kind_store.specs.Lent.{kind_seen}
use Rattle.kind_store.proofs.Settings.{known_there, known_nowhere}
use Rattle.kind_store.proofs.KindStorage.seat.Goals as goal

pub returns-in-Some : goal.returns-in-Some
returns-in-Some c =
    let s = c.args.self.now in
    let id = to_z w64 c.args.id in
    let found : c.find_row-found.result ≡ lookup s.table.now s.ids (rank id) = rw (c.rows-rows.ensures.0, c.rows-rows.ensures.1, c.rank_of_bits.ensures) at c.find_row-found.ensures in
    let row : Some c.in-Some.row ≡ row_found s.table.now (lookup s.table.now s.ids (rank id)) =
    rw (c.rows-rows.ensures.0, c.rows-rows.ensures.1) at c.in-Some.ensures ∙ row_looked_up s.table.now s.ids (rank id) c.find_row-found.result found in
    let known = known_there s.kind (kind_seen s) id c.in-Some.row row in
    rw (found, c.row_version.ensures, known.0, known.1)

pub returns-in-None : goal.returns-in-None
returns-in-None c =
    let s = c.args.self.now in
    let id = to_z w64 c.args.id in
    let found : c.find_row-found.result ≡ lookup s.table.now s.ids (rank id) = rw (c.rows-rows.ensures.0, c.rows-rows.ensures.1, c.rank_of_bits.ensures) at c.find_row-found.ensures in
    let row : None ≡ row_found s.table.now (lookup s.table.now s.ids (rank id)) =
    rw (c.rows-rows.ensures.0, c.rows-rows.ensures.1) at c.in-None.ensures ∙ row_looked_up s.table.now s.ids (rank id) c.find_row-found.result found in
    let known = known_nowhere s.kind (kind_seen s) id row in
    rw (found, ← known.0, ← known.1)
