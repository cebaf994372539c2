use Prim.Native.Nat.{◌<◌}
use mathlib.Core.Path.{◌≡◌, sym, ◌∙◌, ap}
use mathlib.Core.List.{[]}
use native.Mathlib.Omega.{arith}
use lib.ListN.{length}
use Rattle.kind_table.specs.Words.{row_at, held}
use Rattle.kind_table.proofs.Chunks.{chunks_length, row_of_chunk}
use Rattle.kind_reading.specs.Listed.{is_on}
use Rattle.kind_reading.proofs.Walks.{onward, onward_starts, onward_more, onward_other, onward_ends}
use Rattle.kind_reading.proofs.listed_count.Goals.{then-has, else-has}
use Rattle.kind_reading.proofs.listed_count.Goals as goal

pub loop-words-preserved : goal.loop-words-preserved
loop-words-preserved c =
    let side = c.args.side in
    let ws = c.args.storage.now.table.now in
    let n = held ws c.args.storage.now.ids in
    let i = c.loop-words.words-index in
    let inv = c.loop-words.invariant in
    let len : length c.rows-words-items.result.now ≡ n = rw inv.0 (chunks_length n ws) in
    let h : i < n = omega arith in
    let row : c.from.result ≡ row_at ws i = row_of_chunk n i ws [] c.from.result h (rw inv.0 at c.from.ensures) in
    let on = c.has.ensures ∙ ap (is_on side) row in
    elim c.if-has.branch [
      | then-has w ↦ (inv.0, (omega arith, omega (arith, ap length (onward_more side ws n i h (sym on ∙ w.if-has.true)))))
      | else-has w ↦ (inv.0, (omega arith, omega (arith, ap length (onward_other side ws n i h (sym on ∙ w.if-has.false)))))
    ]

pub returns : goal.returns
returns c =
    let side = c.args.side in
    let ws = c.args.storage.now.table.now in
    let n = held ws c.args.storage.now.ids in
    let l = c.loop-words in
    let len : length c.rows-words-items.result.now ≡ n = rw l.invariant.0 (chunks_length n ws) in
    let none : length (onward side ws n l.words-index) ≡ 0 = ap length (onward_ends side ws n l.words-index (omega arith)) in
    omega (arith, ap length (onward_starts side ws n))
