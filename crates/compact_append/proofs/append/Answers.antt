-- The arena is lent from its used bytes on, and the answer is where the record ends, or Full.
use Prim.Native.Nat.{◌+◌}
use mathlib.Core.Path.{◌≡◌, sym}
use lib.ListN.{length}
use Rattle.compact.specs.Held.{meta_of}
use Rattle.compact.proofs.Lengths.{length_written}
use Rattle.little.proofs.Ends.{lies_within, runs_past}
use Rattle.compact_append.specs.Append.{record_written}
use Rattle.compact_append.proofs.Writes.{full_is, append_end}
use Rattle.compact_append.proofs.append.Goals as goal

pub returns-in_err-end : goal.returns-in_err-end
returns-in_err-end g c =
    let a = c.args in
    let h = g.H.RecordHead in
    let t = record_written h.kind (h.says a.head) (meta_of a.meta) a.parts.now in
    let n : c.parts_at.result + length a.parts.now ≡ length t = rw c.parts_at.ensures (sym (length_written h.kind (h.says a.head) (meta_of a.meta) a.parts.now)) in
    rw c.from_residual.ensures (sym (full_is a.arena.now a.used t (rw n at (runs_past a.used _ _ c.in_err-end.ensures))))

pub returns : goal.returns
returns g c =
    let a = c.args in
    let h = g.H.RecordHead in
    let t = record_written h.kind (h.says a.head) (meta_of a.meta) a.parts.now in
    let n : c.parts_at.result + length a.parts.now ≡ length t = rw c.parts_at.ensures (sym (length_written h.kind (h.says a.head) (meta_of a.meta) a.parts.now)) in
    let w = lies_within a.used _ _ c.in_ok-end.end c.in_ok-end.ensures in
    append_end a.arena.now a.used t _ _ (rw n at w.fits) (rw n at w.is) c.put_record.ensures
