-- One walk from record to record: the cells tell the starts of those it passed.
use Prim.Native.Nat.{◌-◌}
use lib.ListN.{length}
use Rattle.kind_sound.proofs.Walks.{Noting}
use Rattle.kind_sound.proofs.note_starts.Given as goal

abbrev pub invariant-loop-at : goal.invariant-loop-at
invariant-loop-at l = Noting l.records.strings l.records.kind l.records.bytes.now l.cells l.at

abbrev pub decreases-loop-at : goal.decreases-loop-at
decreases-loop-at l = length l.records.bytes.now - l.at
