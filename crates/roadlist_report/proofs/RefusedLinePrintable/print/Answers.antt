-- The pieces of the line one after the other.
use Rattle.roadlist_report.proofs.Reports.{line_printed}
use Rattle.roadlist_report.proofs.RefusedLinePrintable.print.Goals as goal

pub returns : goal.returns
returns c =
    let a = c.args.self.now in
    line_printed a.refusal a.line c.from-reply.result c.from-reply.ensures c.put_bytes.ensures (rw c.from.ensures at c.put.ensures) c.put-2.ensures c.put_held.ensures c.put_bytes-2.ensures
