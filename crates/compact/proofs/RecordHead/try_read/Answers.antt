-- A head is read where its bytes are there.
use mathlib.Core.Path.{sym}
use native.Mathlib.Omega.{arith}
use Rattle.compact.proofs.Steps.{head_cut_short}
use Rattle.compact.proofs.RecordHead.try_read.Goals as goal

pub returns-then-bytes-LEN-clause-read : goal.returns-then-bytes-LEN-clause-read
returns-then-bytes-LEN-clause-read g c =
    let h = g.Self.RecordHead in
    let e = g.met.Self.RecordHead.is_long in
    head_cut_short h.saying h.kind c.args.bytes.now (omega (arith, e))
