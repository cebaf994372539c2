-- `sorted::range_overlaps` meets its contract.
use mir.Facts.{to_z-of_z}
use Rattle.base.specs.Bytes.{both, either}
use Rattle.sorted.specs.Lookup.{overlaps, overlap_of}
use Rattle.sorted.proofs.Sorted.{made, not_made}
use Rattle.sorted.proofs.range_overlaps.Goals as goal

pub returns-in_err-live : goal.returns-in_err-live
unfolding overlap_of both
returns-in_err-live c =
    let n = not_made _ c.in_err-live.ensures c.from_residual.ensures in
    rw (n.0, n.1)

pub returns-in_err-deleted : goal.returns-in_err-deleted
unfolding overlap_of both
returns-in_err-deleted c =
    let m = made _ c.in_ok-live.ensures in
    let n = not_made _ c.in_err-deleted.ensures c.from_residual-in_err-deleted.ensures in
    rw (m.1, n.0, n.1)

pub returns-then-any_in : goal.returns-then-any_in
unfolding overlap_of overlaps both either
returns-then-any_in c =
    let k = c.ranges in
    let m = made _ c.in_ok-live.ensures in
    let n = made _ c.in_ok-deleted.ensures in
    let lo = to_z-of_z k.min_id in
    let hi = to_z-of_z k.max_id in
    rw (m.1, n.1, ← rw (lo, hi) at c.blob_osm_first_key-first.ensures, ← rw (lo, hi) at c.blob_osm_last_key-last.ensures, ← rw m.0 at c.any_in.ensures, c.if-any_in.true)

pub returns-else-any_in : goal.returns-else-any_in
unfolding overlap_of overlaps both either
returns-else-any_in c =
    let k = c.ranges in
    let m = made _ c.in_ok-live.ensures in
    let n = made _ c.in_ok-deleted.ensures in
    let lo = to_z-of_z k.min_id in
    let hi = to_z-of_z k.max_id in
    rw (m.1, n.1, ← rw (lo, hi) at c.blob_osm_first_key-first.ensures, ← rw (lo, hi) at c.blob_osm_last_key-last.ensures, ← rw m.0 at c.any_in.ensures, c.if-any_in.false, rw n.0 at c.any_in-else-any_in.ensures)
