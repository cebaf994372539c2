use native.Mathlib.Omega.{arith}
use Rattle.interner.specs.Lent.{store_seen}
use Rattle.compact.specs.Held.{relation_head, counts_head}
use Rattle.listing_fields.specs.Fields.{body_fields_at}
use Rattle.print.specs.Print.{tabs}
use Rattle.print.proofs.Pieces.{then_printed}
use Rattle.print.proofs.Walks.{stepped, ended}
use Rattle.listing_fields.proofs.Walks.{fields_of, each_next, each_ends}
use Rattle.listing_fields.proofs.CompactRelationBody.put_body.Goals as goal

pub loop-i-preserved : goal.loop-i-preserved
loop-i-preserved c =
    let g = fields_of (store_seen c.args.held.now.strings) c.args.held.now.bytes.now in
    stepped (each_next g c.args.self.member_count c.loop-i.i (omega arith)) c.loop-i.invariant (rw c.member_at.ensures at c.put_member.ensures)

pub returns : goal.returns
unfolding tabs body_fields_at relation_head counts_head
returns c =
    let g = fields_of (store_seen c.args.held.now.strings) c.args.held.now.bytes.now in
    then_printed (rw c.from.ensures at c.put.ensures) (ended (each_ends g c.args.self.member_count c.loop-i.i (omega arith)) c.loop-i.invariant)
