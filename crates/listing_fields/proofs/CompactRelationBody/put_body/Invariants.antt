-- Member after member: the members printed and those from the i-th on are together all.
use Prim.Native.Nat.{◌-◌}
use Rattle.interner.specs.Lent.{store_seen}
use Rattle.print.specs.Print.{tabs}
use Rattle.print.proofs.Walks.{Walk}
use Rattle.listing_fields.specs.Fields.{each_from}
use Rattle.listing_fields.proofs.Walks.{fields_of}
use Rattle.listing_fields.proofs.CompactRelationBody.put_body.Given as goal

abbrev pub invariant-loop-i : goal.invariant-loop-i
invariant-loop-i l =
    let g = fields_of (store_seen l.held.strings) l.held.bytes.now in
    Walk (tabs (each_from g 0 l.i-end)) (tabs (each_from g l.i (l.i-end - l.i))) l.initial.printer l.printer
