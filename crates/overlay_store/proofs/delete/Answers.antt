-- The kind's part of the blocks and its counters.
use mir.Syntax.{w64}
use mir.Val.{to_z}
use Rattle.overlay_store.proofs.Parts.{delete_after}
use Rattle.overlay_store.proofs.delete.Goals as goal

pub returns-clause-done : goal.returns-clause-done
returns-clause-done c =
    let k = c.args in
    let s = k.tables.now in
    delete_after k.kind s.words.now s.bytes.now s.counters.now c.delete_in.new.counters _ (rw c.from.ensures at c.part-p.ensures.0) _ _ c.delete_in.auto.table (to_z w64 k.id) k.claim c.delete_in.ensures
