-- Ref after ref: the refs printed and those from the i-th on are together all.
use Prim.Native.Nat.{◌-◌}
use Rattle.print.specs.Print.{tabs}
use Rattle.print.proofs.Walks.{Walk}
use Rattle.listing_fields.specs.Fields.{each_from, ref_fields_at}
use Rattle.listing_fields.proofs.CompactWayBody.put_body.Given as goal

abbrev pub invariant-loop-i : goal.invariant-loop-i
invariant-loop-i l = Walk (tabs (each_from (ref_fields_at l.held.bytes.now) 0 l.i-end)) (tabs (each_from (ref_fields_at l.held.bytes.now) l.i (l.i-end - l.i))) l.initial.printer l.printer
