use Prim.Native.Nat.{◌<◌}
use Rattle.std.specs.Prelude.{Some}
use mathlib.Core.Path.{◌≡◌, sym, ◌∙◌, ap}
use mathlib.Core.List.{[]}
use native.Mathlib.Omega.{arith}
use lib.ListN.{length}
use Rattle.kind_table.specs.Words.{row_at, held}
use Rattle.kind_table.proofs.Chunks.{chunks_length, row_of_chunk}
use Rattle.kind_reading.specs.Listed.{is_on, nth}
use Rattle.kind_reading.proofs.Walks.{nth_none, nth_first, nth_later, onward, onward_starts, onward_more, onward_other, onward_ends}
use Rattle.kind_reading.proofs.listed_row.Goals.{then-has+else-left-eq0, else-has}
use Rattle.kind_reading.proofs.listed_row.Goals as goal

pub returns-then-left-eq0 : goal.returns-then-left-eq0
returns-then-left-eq0 c =
    let side = c.args.side in
    let ws = c.args.storage.now.table.now in
    let n = held ws c.args.storage.now.ids in
    let l = c.loop-words in
    let i = l.words-index in
    let len : length c.rows-words-items.result.now ≡ n = rw l.invariant.0 (chunks_length n ws) in
    let h : i < n = omega arith in
    let row : c.from-row.result ≡ row_at ws i = row_of_chunk n i ws [] c.from-row.result h (rw l.invariant.0 at c.from-row.ensures) in
    let on = c.has.ensures ∙ ap (is_on side) row in
    let more = onward_more side ws n i h (sym on ∙ c.if-has.true) in
    let here : nth (onward side ws n i) l.left ≡ Some (row_at ws i) = rw (more, c.if-left-eq0.true) (nth_first _ _) in
    rw (← onward_starts side ws n) (ap Some row ∙ (sym here ∙ l.invariant.1))

pub loop-words-preserved : goal.loop-words-preserved
loop-words-preserved c =
    let side = c.args.side in
    let ws = c.args.storage.now.table.now in
    let n = held ws c.args.storage.now.ids in
    let l = c.loop-words in
    let i = l.words-index in
    let len : length c.rows-words-items.result.now ≡ n = rw l.invariant.0 (chunks_length n ws) in
    let h : i < n = omega arith in
    let row : c.from-row.result ≡ row_at ws i = row_of_chunk n i ws [] c.from-row.result h (rw l.invariant.0 at c.from-row.ensures) in
    let on = c.has.ensures ∙ ap (is_on side) row in
    elim c.if-has.branch [
      | then-has+else-left-eq0 w ↦
          let more = onward_more side ws n i h (sym on ∙ w.if-has.true) in
          (l.invariant.0, rw w.left-is (sym (rw more (nth_later _ _ l.left w.if-left-eq0.false)) ∙ l.invariant.1))
      | else-has w ↦
          let other = onward_other side ws n i h (sym on ∙ w.if-has.false) in
          (l.invariant.0, rw (w.left-is, ← other) l.invariant.1)
    ]

pub returns : goal.returns
returns c =
    let side = c.args.side in
    let ws = c.args.storage.now.table.now in
    let n = held ws c.args.storage.now.ids in
    let l = c.loop-words in
    let len : length c.rows-words-items.result.now ≡ n = rw l.invariant.0 (chunks_length n ws) in
    rw (← onward_starts side ws n)
    (sym (rw (onward_ends side ws n l.words-index (omega arith)) (nth_none l.left)) ∙ l.invariant.1)
