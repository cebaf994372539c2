use native.Mathlib.Omega.{arith}
use Rattle.kind.specs.declared.Kind.TheVariants.{Node}
use Rattle.overlay.specs.Lent.{overlay_seen}
use Rattle.print.proofs.Walks.{begun, stepped, ended}
use Rattle.listing.proofs.EachKind.{kinds, all_lines, next_lines, last_lines, kind_printed}
use Rattle.listing.proofs.PagePrintable.print.Goals as goal

pub loop-kind-init : goal.loop-kind-init
loop-kind-init c = rw all_lines (begun _ _)

pub loop-kind-preserved : goal.loop-kind-preserved
loop-kind-preserved c =
    let o = overlay_seen c.args.self.now.storage in
    let k = c.kind_storage.ensures in
    stepped (next_lines o kinds c.loop-kind.kind-index Node (omega arith)) c.loop-kind.invariant
    (kind_printed o _ _ _ c.strings-strings.ensures k.seen (rw k.kind at c.print.ensures))

pub returns : goal.returns
returns c = ended (last_lines (overlay_seen c.args.self.now.storage) kinds c.loop-kind.kind-index (omega arith)) c.loop-kind.invariant
