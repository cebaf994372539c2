-- The kind's part of the blocks and its counters.
use Rattle.overlay_store.proofs.Parts.{push_after}
use Rattle.overlay_store.proofs.push.Goals as goal

pub returns-clause-done : goal.returns-clause-done
returns-clause-done c =
    let k = c.args in
    let s = k.storage.now in
    let r = k.push.now in
    push_after r.kind s.words.now s.bytes.now s.counters.now c.push_in.new.counters _ (rw c.from.ensures at c.part-p.ensures.0) _ _ _ c.push_in.auto.table c.push_in.auto.arena r.head r.meta r.parts.now c.push_in.ensures
