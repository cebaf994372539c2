-- What the strings answer; the counters of the strings hold what they count after.
use Rattle.overlay.proofs.Puts.{texts_lent}
use Rattle.overlay_store.proofs.Parts.{interned_after}
use Rattle.overlay_store.proofs.intern.Goals as goal

pub returns-clause-done : goal.returns-clause-done
returns-clause-done c =
    λ given.
    let s = c.args.storage.now in
    let e = rw c.from.ensures at c.texts-t.ensures.0 in
    let i = c.intern_in-handle in
    let g = rw (← texts_lent s.words.now s.bytes.now s.counters.now _ e) at given in
    interned_after s.words.now s.bytes.now s.counters.now i.new.counters _ e _ _ i.auto.spans i.auto.bytes i.ensures.others _ c.args.text.now (i.ensures.store g) (i.ensures.handle g) _ c.ok_or.ensures.value
