-- A ref stands where its bytes are there.
use Rattle.little.proofs.Littles.{bytes_of}
use Rattle.little.proofs.Ends.{lies_within, runs_past}
use Rattle.compact.proofs.Steps.{ref_past, ref_whole}
use Rattle.compact.proofs.RefPartPart.there.Goals as goal

pub returns-in_err-next : goal.returns-in_err-next
returns-in_err-next c = let a = c.args in rw c.from_residual.ensures (ref_past a.bytes.now a.offset (runs_past a.offset 8 _ c.in_err-next.ensures))

pub returns : goal.returns
returns c =
    let a = c.args in
    let s = a.bytes.now in
    let w = lies_within a.offset 8 _ c.in_ok-next.next c.in_ok-next.ensures in
    rw (c.get_u64.ensures, w.is) (ref_whole s a.offset (bytes_of s (λ i l. (c.type_inv.bytes i).fits)) w.fits)
