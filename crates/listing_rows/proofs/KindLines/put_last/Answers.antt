-- The record from its offset on, or nothing.
use mathlib.Core.Path.{sym, ◌∙◌}
use Rattle.kind_store.proofs.Settings.{live_offset, no_offset}
use Rattle.print.specs.Print.{tabs}
use Rattle.print.proofs.Pieces.{nothing_printed}
use Rattle.listing_rows.proofs.Walks.{view_from}
use Rattle.listing_rows.proofs.KindLines.put_last.Goals as goal

pub returns-in-Some : goal.returns-in-Some
returns-in-Some c =
    let l = live_offset c.args.row.offset c.in-Some.offset c.in-Some.ensures in
    rw (l.1, ← l.0, ← view_from c.args.self.now.storage.arena.now c.in-Some.offset c.lesser-at.result c.lesser-at.ensures)
    c.print.ensures

pub returns-in_default : goal.returns-in_default
unfolding tabs
returns-in_default c = rw (no_offset c.args.row.offset (sym c.in_default.is ∙ c.record_offset.ensures)) (nothing_printed _)
