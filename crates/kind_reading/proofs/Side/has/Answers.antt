-- A row with an offset for its record is live, any other says that the id is deleted.
use mathlib.Core.Path.{◌∙◌, ap}
use mathlib.Core.Bool.{not}
use Rattle.kind_store.proofs.Settings.{offset_is}
use Rattle.kind_reading.proofs.Standings.{not_back}
use Rattle.kind_reading.proofs.Side.has.Goals as goal

pub returns-in-Live : goal.returns-in-Live
returns-in-Live c = rw c.in-Live.is (c.is_some.ensures ∙ rw c.record_offset.ensures (offset_is c.args.row.offset))

pub returns-in-Deleted : goal.returns-in-Deleted
returns-in-Deleted c =
    rw c.in-Deleted.is (not_back _ _ c.is_none.ensures ∙ ap not (rw c.record_offset-in-Deleted.ensures (offset_is c.args.row.offset)))
