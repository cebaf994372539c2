use mathlib.Core.Path.{◌≡◌}
use mathlib.Core.List.{[]}
use native.Mathlib.Omega.{arith}
use Prim.Native.Nat.{◌<◌}
use lib.ListN.{length, take}
use Rattle.interner.specs.Lent.{store_seen}
use Rattle.interner.proofs.Takes.{take_min}
use Rattle.kind_table.specs.Words.{row_at, held}
use Rattle.kind_table.proofs.Chunks.{chunks_length, row_of_chunk}
use Rattle.print.proofs.Walks.{stepped, ended}
use Rattle.listing_fields.specs.Fields.{text_held}
use Rattle.listing_rows.proofs.Walks.{rows_next, rows_start, rows_end}
use Rattle.listing_rows.proofs.KindLinesPrintable.print.Goals as goal

pub loop-words-init : goal.loop-words-init
loop-words-init c =
    let k = c.args.self.now.storage in
    let m = held k.table.now k.ids in (
      rw (c.rows-table.ensures.0, c.rows-table.ensures.1) at c.rows-words-items.ensures.value,
      rows_start (text_held (store_seen c.args.self.now.strings)) k.kind (take c.lesser-used.result k.arena.now) k.table.now m _,
    )

pub loop-words-preserved : goal.loop-words-preserved
loop-words-preserved c =
    let k = c.args.self.now.storage in
    let m = held k.table.now k.ids in
    let l = c.loop-words in
    let i = l.words-index in
    let len : length c.rows-words-items.result.now ≡ m = rw l.invariant.0 (chunks_length m k.table.now) in
    let h : i < m = omega arith in
    let row : c.from.result ≡ row_at k.table.now i = row_of_chunk m i k.table.now [] c.from.result h (rw l.invariant.0 at c.from.ensures) in (
      l.invariant.0,
      stepped (rows_next (text_held (store_seen c.args.self.now.strings)) k.kind (take c.lesser-used.result k.arena.now) k.table.now m i h) l.invariant.1 (rw row at c.put_line.ensures),
    )

pub returns : goal.returns
returns c =
    let k = c.args.self.now.storage in
    let m = held k.table.now k.ids in
    let l = c.loop-words in
    let len : length c.rows-words-items.result.now ≡ m = rw l.invariant.0 (chunks_length m k.table.now) in
    let e = ended (rows_end (text_held (store_seen c.args.self.now.strings)) k.kind (take c.lesser-used.result k.arena.now) k.table.now m l.words-index (omega arith)) l.invariant.1 in
    rw (c.lesser-used.ensures, take_min) at e
