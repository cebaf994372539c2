-- The version of the row that the search finds.
use mathlib.Core.Path.{◌∙◌}
use mir.Val.{to_z}
use mir.Syntax.{w64}
use Rattle.kind_store.specs.Lent.{kind_seen}
use Rattle.kind_store.proofs.Settings.{known_there, known_nowhere}
use Rattle.kind_store.proofs.KindStorage.known_version.Goals as goal

pub returns-in_err-row : goal.returns-in_err-row
returns-in_err-row c =
    let s = c.args.self.now in
    c.from_residual.ensures ∙ (known_nowhere s.kind (kind_seen s) (to_z w64 c.args.id) (rw (c.rows.ensures.0, c.rows.ensures.1, c.rank_of_bits.ensures) at c.in_err-row.ensures)).0

pub returns : goal.returns
returns c =
    let s = c.args.self.now in
    c.row_version.ensures ∙ (known_there s.kind (kind_seen s) (to_z w64 c.args.id) c.in_ok-row.row (rw (c.rows.ensures.0, c.rows.ensures.1, c.rank_of_bits.ensures) at c.in_ok-row.ensures)).0
