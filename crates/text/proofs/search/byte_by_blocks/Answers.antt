-- `text::search::byte_by_blocks`: a block tells of its bytes, and the bytes before it are told already.
use Rattle.std.proofs.Common.{◌-◌, eqb, length, arith}
use Rattle.text.proofs.Blocks.{within_block, none_so_far, found, found_last}
use Rattle.text.proofs.search.byte_by_blocks.Goals as goal

pub loop-at-init : goal.loop-at-init
loop-at-init g c = (omega arith, λ k h. absurd (omega arith))

pub loop-at-preserved : goal.loop-at-preserved
loop-at-preserved g c =
    let b = c.byte_in_block-n in
    let w = within_block (λ b. eqb b c.args.byte) c.args.s.now c.loop-at.at g.row.N b.result (omega arith) b.ensures in
    let so_far = none_so_far (λ b. eqb b c.args.byte) c.args.s.now c.loop-at.at g.row.N b.result (omega arith) b.ensures c.loop-at.invariant.1 in
    (omega arith, λ k h. so_far k (omega (arith, w, h)))

pub returns-then-n : goal.returns-then-n
returns-then-n g c =
    let b = c.byte_in_block-n in
    found (λ b. eqb b c.args.byte) c.args.s.now c.loop-at.at g.row.N b.result (omega arith) b.ensures c.loop-at.invariant.1 c.if-n.true

pub overflow_add-result-2 : goal.overflow_add-result-2
overflow_add-result-2 g c =
    let b = c.byte_in_block in
    let w = within_block (λ b. eqb b c.args.byte) c.args.s.now (length c.args.s.now - g.row.N) g.row.N b.result (omega arith) b.ensures in
    omega (arith, w)

pub returns : goal.returns
returns g c =
    let b = c.byte_in_block in
    found_last (λ b. eqb b c.args.byte) c.args.s.now (length c.args.s.now - g.row.N) g.row.N b.result (omega arith) b.ensures (λ k h. c.loop-at.invariant.1 k (omega arith)) (omega arith)
