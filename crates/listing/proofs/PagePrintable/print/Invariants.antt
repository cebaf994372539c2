-- Kind after kind: the lines printed and those of the kinds from the index on are together all.
use lib.ListN.{drop}
use Rattle.overlay.specs.Lent.{overlay_seen}
use Rattle.print.proofs.Walks.{Walk}
use Rattle.listing.specs.Pieces.{pieces_of}
use Rattle.listing.proofs.EachKind.{lines_of}
use Rattle.listing.proofs.PagePrintable.print.Given as goal

abbrev pub invariant-loop-kind : goal.invariant-loop-kind
invariant-loop-kind l =
    let o = overlay_seen l.self.storage in
    Walk (pieces_of o) (lines_of o (drop l.kind-index l.kind-items)) l.initial.printer l.printer
