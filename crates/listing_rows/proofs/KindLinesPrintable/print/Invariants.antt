-- Row after row: the rows printed and those from the next on are together all.
use Prim.Native.Nat.{◌-◌}
use mathlib.Core.Path.{◌≡◌}
use lib.ListN.{take}
use Rattle.std.specs.Simd.{first_chunks}
use Rattle.interner.specs.Lent.{store_seen}
use Rattle.kind_table.specs.Words.{rows_from, rows_of, held}
use Rattle.print.proofs.Walks.{Walk}
use Rattle.listing_fields.specs.Fields.{text_held}
use Rattle.listing_rows.specs.Lines.{row_pieces}
use Rattle.listing_rows.proofs.KindLinesPrintable.print.Given as goal

abbrev pub invariant-loop-words : goal.invariant-loop-words
invariant-loop-words l =
    let f = text_held (store_seen l.self.strings) in
    let k = l.self.storage in
    let arena = take l.used k.arena.now in
    let ws = k.table.now in
    let m = held ws k.ids in
    (l.words-items ≡ first_chunks 3 m ws)
    × Walk (row_pieces f k.kind arena (rows_of ws m)) (row_pieces f k.kind arena (rows_from ws l.words-index (m - l.words-index))) l.initial.printer l.printer
