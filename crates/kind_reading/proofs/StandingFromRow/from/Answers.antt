-- A row with an offset for its record is live, any other says that the id is deleted.
use Rattle.kind_store.proofs.Settings.{live_offset, no_offset}
use Rattle.kind_reading.proofs.Standings.{row_live, row_deleted}
use Rattle.kind_reading.proofs.StandingFromRow.from.Goals as goal

pub returns-in-Some : goal.returns-in-Some
returns-in-Some c =
    let r = c.args.row in
    let l = live_offset r.offset c.in-Some.offset c.in-Some.ensures in
    rw (l.0, row_live r l.1)

pub returns-in-None : goal.returns-in-None
returns-in-None c = let r = c.args.row in rw (row_deleted r (no_offset r.offset c.in-None.ensures))
