-- `Table::row` meets its contract: the row of the i-th three words.
use Prim.Native.Nat.{◌<◌}
use mathlib.Core.Path.{◌≡◌, sym, ◌∙◌, ap}
use native.Mathlib.Omega.{arith}
use lib.ListN.{get_or}
use borrow.Author.Tests.{lt-ltb, ltb-true}
use Rattle.std.specs.Prelude.{Some}
use Rattle.std.specs.Simd.{first_chunks}
use Rattle.kind_table.specs.Words.{held, row_of_words}
use Rattle.kind_table.proofs.Chunks.{row_of_chunk}
use Rattle.kind_table.proofs.Table.row.Goals as goal

pub returns : goal.returns
returns c =
    let s = c.args.self.now in
    let n = held s.words.now s.count in
    let d = c.in_ok-words.words.now in
    let h : c.args.i < n = omega (arith, ltb-true _ _ (sym c.in_ok-words.ensures.lookup.0), c.rows.ensures.len) in
    let e : c.from.result ≡ row_of_words (get_or (first_chunks 3 n s.words.now) c.args.i d) =
    c.from.ensures ∙ ap row_of_words (rw c.rows.ensures.value at c.in_ok-words.ensures.lookup.1) in
    rw (lt-ltb c.args.i n h) (ap Some (row_of_chunk n c.args.i s.words.now d c.from.result h e))
