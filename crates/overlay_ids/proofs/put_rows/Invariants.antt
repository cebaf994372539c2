-- `put_rows` writes the id and the version of each row that is on the list. The invariant: those of the rows from the next on are still to come.
use mathlib.Core.Path.{◌≡◌}
use Rattle.std.specs.Simd.{first_chunks}
use Rattle.kind_table.specs.Words.{held}
use Rattle.kind_store.specs.Lent.{kind_seen}
use Rattle.overlay_ids.proofs.Writes.{Putting}
use Rattle.overlay_ids.proofs.put_rows.Given as goal

abbrev pub invariant-loop-words : goal.invariant-loop-words
invariant-loop-words l =
    let h = l.fn.held in
    let m = held h.table.now h.ids in
    (l.words-items ≡ first_chunks 3 m h.table.now)
    × Putting h.kind l.side (kind_seen h) l.initial.ids l.initial.versions m l.ids l.versions l.words-index l.n
