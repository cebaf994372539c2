use Prim.Native.Nat.{◌<◌}
use mathlib.Core.Path.{sym, ◌∙◌}
use native.Mathlib.Omega.{arith}
use Rattle.kind_sound.proofs.Walks.{arrived, stops, Coming, coming_first, coming_next}
use Rattle.kind_sound.proofs.comes_to.Goals as goal

pub loop-at-init : goal.loop-at-init
loop-at-init c = let s = c.args.records.now in coming_first s.strings s.kind s.bytes.now c.args.offset

pub returns-in_default : goal.returns-in_default
returns-in_default c =
    let s = c.args.records.now in
    let l = c.loop-at in
    sym (stops s.strings s.kind s.bytes.now c.args.offset l.invariant.fuel l.at l.invariant.enough c.loop-at-test.true (sym c.in_default.is ∙ c.end.ensures))
    ∙ l.invariant.same

-- a record more
turn : (c : goal.In-Some) → let s = c.args.records.now in
    (c.loop-at.at < c.in-Some.e) × Coming s.strings s.kind s.bytes.now c.args.offset c.in-Some.e
turn c =
    let s = c.args.records.now in
    let l = c.loop-at in
    coming_next s.strings s.kind s.bytes.now c.args.offset l.at c.in-Some.e l.invariant c.loop-at-test.true
    (sym c.in-Some.is ∙ c.end.ensures)

pub loop-at-smaller : goal.loop-at-smaller
loop-at-smaller c = omega (arith, (turn c).0)

pub loop-at-preserved : goal.loop-at-preserved
loop-at-preserved c = (turn c).1

pub returns : goal.returns
returns c =
    let s = c.args.records.now in
    let l = c.loop-at in
    sym (arrived s.strings s.kind s.bytes.now c.args.offset l.invariant.fuel l.at c.loop-at-test.false) ∙ l.invariant.same
