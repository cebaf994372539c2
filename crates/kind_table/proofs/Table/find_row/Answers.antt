-- `Table::find_row` meets its contract: the row of the rank stands where the search by halves ends, or none does.
use Prim.Native.Nat.{◌<◌}
use mathlib.Core.Path.{◌≡◌, sym, ◌∙◌}
use native.Mathlib.Omega.{arith}
use Rattle.kind_table.specs.Words.{held, answer_at, lookup}
use Rattle.kind_table.proofs.Chunks.{rank_of_chunk}
use Rattle.kind_table.proofs.Halves.{answer_at_lem, answer_place}
use Rattle.kind_table.proofs.Table.find_row.Goals.{else-p-rows-via-then-p-rows+else-rows-p, else-p-rows-via-else-p-rows}
use Rattle.kind_table.proofs.Table.find_row.Goals as goal

pub returns-then-rows-p : goal.returns-then-rows-p
unfolding lookup
returns-then-rows-p c =
    let s = c.args.self.now in
    let n = held s.words.now s.count in
    let p = c.place_of-p.result in
    let answered : lookup s.words.now s.count c.args.rank ≡ answer_at s.words.now n c.args.rank p = rw (← c.place_of-p.ensures) in
    let l : p < n = omega arith in
    sym (answered ∙ answer_at_lem _ _ _ _ l (rw (rank_of_chunk n p s.words.now c.rows-rows.ensures.value l) at c.if-rows-p.true))

pub returns-else-p-rows : goal.returns-else-p-rows
unfolding lookup
returns-else-p-rows c =
    let s = c.args.self.now in
    let n = held s.words.now s.count in
    let p = c.place_of-p.result in
    let answered : lookup s.words.now s.count c.args.rank ≡ answer_at s.words.now n c.args.rank p = rw (← c.place_of-p.ensures) in
    sym (answered ∙ answer_place _ _ _ _
    (λ l e. elim c.else-p-rows.branch [
      | else-p-rows-via-then-p-rows+else-rows-p w ↦ w.if-rows-p.false (rank_of_chunk n p s.words.now c.rows-rows.ensures.value l ∙ e)
      | else-p-rows-via-else-p-rows w ↦ absurd (omega arith)
    ]))
