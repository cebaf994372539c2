use Prim.Native.Nat.{◌+◌, ◌/◌, ◌<◌, ◌≤◌}
use native.Mathlib.Omega.{arith}
use Rattle.kind_table.specs.Words.{held, rank_at}
use Rattle.kind_table.proofs.Chunks.{rank_of_chunk}
use Rattle.kind_table.proofs.Halves.{halving_starts, halving_up, halving_down, halving_ends}
use Rattle.kind_table.proofs.Table.place_of.Goals as goal

pub loop-lo-init : goal.loop-lo-init
loop-lo-init c =
    let s = c.args.self.now in
    let n = held s.words.now s.count in
    rw c.rows-rows.ensures.len (omega arith, (omega arith, halving_starts s.words.now c.args.rank n))

pub loop-lo-preserved-then-rows-mid : goal.loop-lo-preserved-then-rows-mid
loop-lo-preserved-then-rows-mid c =
    let s = c.args.self.now in
    let l = c.loop-lo in
    let n = held s.words.now s.count in
    let mid = (l.lo + l.hi) / 2 in
    let h : rank_at s.words.now mid < c.args.rank = rw (rank_of_chunk n mid s.words.now c.rows-rows.ensures.value (omega arith)) at c.if-rows-mid.true in
    (omega arith, (omega arith, halving_up s.words.now c.args.rank n l.lo l.hi l.invariant.1.1 (omega arith) h))

pub loop-lo-preserved : goal.loop-lo-preserved
loop-lo-preserved c =
    let s = c.args.self.now in
    let l = c.loop-lo in
    let n = held s.words.now s.count in
    let mid = (l.lo + l.hi) / 2 in
    let h : c.args.rank ≤ rank_at s.words.now mid = rw (rank_of_chunk n mid s.words.now c.rows-rows.ensures.value (omega arith)) at c.if-rows-mid.false in
    (omega arith, (omega arith, halving_down s.words.now c.args.rank n l.lo l.hi l.invariant.1.1 (omega arith) h))

pub returns : goal.returns
returns c =
    let s = c.args.self.now in
    let l = c.loop-lo in
    halving_ends s.words.now c.args.rank (held s.words.now s.count) l.lo l.hi l.invariant.1.1 (omega arith)
