-- `read`: 2, then 3, then 4 or an event.
use Rattle.std.proofs.Common.{length, drop, sym, ap, ◌∙◌, arith}
use lib.Seq.{length-take-le}
use Rattle.line.specs.Line.{fields}
use Rattle.event_scan.proofs.Standing.{lies_wider, spells_equal}
use Rattle.event_scan.proofs.Lines.{judged, judged_part, plain_legal, plain_whole, scan_long, scan_illegal, scan_open, scan_broken, reads_event}
use Rattle.event_scan.proofs.event_line.read.Goals as goal

pub returns-then-n-gt-MAX_LINE-clause-means : goal.returns-then-n-gt-MAX_LINE-clause-means
returns-then-n-gt-MAX_LINE-clause-means c =
    let n = c.body_length-n in
    scan_long c.args.line.now n.result n.ensures (omega arith)

pub slice_bounds-text-end : goal.slice_bounds-text-end
slice_bounds-text-end c =
    let s = c.args.line.now in
    let n = c.body_length-n in
    sym (length-take-le n.result s (omega (arith, n.ensures, (judged s).within)))

pub returns-then-n-line-clause-means : goal.returns-then-n-line-clause-means
returns-then-n-line-clause-means c =
    let n = c.body_length-n in
    let k = plain_legal _ (sym c.plain.ensures ∙ c.if-plain.true) in
    scan_open c.args.line.now n.result n.ensures (omega arith) k c.if-n-line.true

pub returns-then-plain-clause-means : goal.returns-then-plain-clause-means
returns-then-plain-clause-means c =
    let n = c.body_length-n in
    let p = sym c.plain.ensures ∙ c.if-plain.true in
    c.event.ensures.means ∙ reads_event c.args.line.now n.result n.ensures (omega arith) (plain_legal _ p) c.if-n-line.false (plain_whole _ p)

pub returns-then-plain-clause-in_bounds : goal.returns-then-plain-clause-in_bounds
returns-then-plain-clause-in_bounds c =
    let n = c.body_length-n in
    lies_wider _ (omega (arith, ap length (judged_part c.args.line.now n.result n.ensures))) c.event.ensures.in_bounds

pub returns-then-plain-clause-written : goal.returns-then-plain-clause-written
returns-then-plain-clause-written c =
    let n = c.body_length-n in
    spells_equal _ (ap (λ t. drop 1 (fields t)) (judged_part c.args.line.now n.result n.ensures)) c.event.ensures.written

pub returns-then-n-line-2-clause-means : goal.returns-then-n-line-2-clause-means
returns-then-n-line-2-clause-means c =
    let n = c.body_length-n in
    let k = sym c.legal_line.ensures ∙ c.if-legal_line.true in
    scan_open c.args.line.now n.result n.ensures (omega arith) k c.if-n-line-2.true

pub returns-then-lacks-clause-means : goal.returns-then-lacks-clause-means
returns-then-lacks-clause-means c =
    let n = c.body_length-n in
    let k = sym c.legal_line.ensures ∙ c.if-legal_line.true in
    c.event-then-lacks.ensures.means ∙ reads_event c.args.line.now n.result n.ensures (omega arith) k c.if-n-line-2.false (sym c.lacks.ensures ∙ c.if-lacks.true)

pub returns-then-lacks-clause-in_bounds : goal.returns-then-lacks-clause-in_bounds
returns-then-lacks-clause-in_bounds c =
    let n = c.body_length-n in
    lies_wider _ (omega (arith, ap length (judged_part c.args.line.now n.result n.ensures))) c.event-then-lacks.ensures.in_bounds

pub returns-then-lacks-clause-written : goal.returns-then-lacks-clause-written
returns-then-lacks-clause-written c =
    let n = c.body_length-n in
    spells_equal _ (ap (λ t. drop 1 (fields t)) (judged_part c.args.line.now n.result n.ensures)) c.event-then-lacks.ensures.written

pub returns-then-legal_line-clause-means : goal.returns-then-legal_line-clause-means
returns-then-legal_line-clause-means c =
    let n = c.body_length-n in
    let k = sym c.legal_line.ensures ∙ c.if-legal_line.true in
    scan_broken c.args.line.now n.result n.ensures (omega arith) k c.if-n-line-2.false (sym c.lacks.ensures ∙ c.if-lacks.false)

pub returns-clause-means : goal.returns-clause-means
returns-clause-means c =
    let n = c.body_length-n in
    scan_illegal c.args.line.now n.result n.ensures (omega arith) (sym c.legal_line.ensures ∙ c.if-legal_line.false)
