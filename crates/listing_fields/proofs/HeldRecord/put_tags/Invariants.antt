-- Tag after tag, step by step: the tags printed and those from the place on are together all.
use Rattle.interner.specs.Lent.{store_seen}
use Rattle.print.specs.Print.{tabs}
use Rattle.print.proofs.Walks.{Walk}
use Rattle.listing_fields.specs.Fields.{text_held, tag_fields_from}
use Rattle.listing_fields.proofs.HeldRecord.put_tags.Given as goal

abbrev pub invariant-loop-tag : goal.invariant-loop-tag
invariant-loop-tag l =
    let f = text_held (store_seen l.self.strings) in
    let s = l.self.bytes.now in
    Walk (tabs (tag_fields_from f s l.fn.first.offset l.fn.first.remaining)) (tabs (tag_fields_from f s l.place.offset l.place.remaining)) l.initial.printer l.printer

abbrev pub decreases-loop-tag : goal.decreases-loop-tag
decreases-loop-tag l = l.place.remaining
