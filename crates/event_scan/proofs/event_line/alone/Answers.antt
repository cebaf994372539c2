-- `alone`: `close`, `other`, or no event.
use Rattle.distinct.proofs.Spelled.{spelled}
use Rattle.event_scan.specs.Scan.{lone}
use Rattle.event_scan.proofs.event_line.alone.Goals as goal

pub returns-then-equal-clause-means : goal.returns-then-equal-clause-means
unfolding lone
returns-then-equal-clause-means c = rw (← spelled _ _ c.as_slice.ensures c.equal.ensures, c.if-equal.true)

pub returns-then-equal-2-clause-means : goal.returns-then-equal-2-clause-means
unfolding lone
returns-then-equal-2-clause-means c = rw (← spelled _ _ c.as_slice.ensures c.equal.ensures, c.if-equal.false, ← spelled _ _ c.as_slice-2.ensures c.equal-2.ensures, c.if-equal-2.true)

pub returns-clause-means : goal.returns-clause-means
unfolding lone
returns-clause-means c = rw (← spelled _ _ c.as_slice.ensures c.equal.ensures, c.if-equal.false, ← spelled _ _ c.as_slice-2.ensures c.equal-2.ensures, c.if-equal-2.false)
