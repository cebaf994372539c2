-- A walk to one offset: what is left of it from record to record.
use Prim.Native.Nat.{◌-◌}
use Rattle.kind_sound.proofs.Walks.{Coming}
use Rattle.kind_sound.proofs.comes_to.Given as goal

abbrev pub invariant-loop-at : goal.invariant-loop-at
invariant-loop-at l = Coming l.records.strings l.records.kind l.records.bytes.now l.offset l.at

abbrev pub decreases-loop-at : goal.decreases-loop-at
decreases-loop-at l = l.offset - l.at
