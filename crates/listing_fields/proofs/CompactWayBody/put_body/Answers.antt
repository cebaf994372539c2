use native.Mathlib.Omega.{arith}
use Rattle.compact.specs.Held.{way_head, counts_head}
use Rattle.print.specs.Print.{tabs}
use Rattle.print.proofs.Pieces.{then_printed}
use Rattle.print.proofs.Walks.{stepped, ended}
use Rattle.listing_fields.specs.Fields.{ref_fields_at, body_fields_at}
use Rattle.listing_fields.proofs.Walks.{each_next, each_ends}
use Rattle.listing_fields.proofs.CompactWayBody.put_body.Goals as goal

pub loop-i-preserved : goal.loop-i-preserved
unfolding tabs body_fields_at way_head counts_head
loop-i-preserved c =
    let g = ref_fields_at c.args.held.now.bytes.now in
    stepped (each_next g c.args.self.ref_count c.loop-i.i (omega arith)) c.loop-i.invariant (rw c.ref_at.ensures at c.put-in-loop-i.ensures)

pub returns : goal.returns
unfolding tabs body_fields_at way_head counts_head
returns c =
    let g = ref_fields_at c.args.held.now.bytes.now in
    then_printed (rw c.from.ensures at c.put.ensures) (ended (each_ends g c.args.self.ref_count c.loop-i.i (omega arith)) c.loop-i.invariant)
