use Prim.Native.Nat.{◌/◌, ◌<◌}
use mathlib.Core.Path.{refl, sym, ◌∙◌}
use native.Mathlib.Omega.{arith}
use lib.ListN.{set}
use Rattle.base.proofs.Split.{clash}
use Rattle.kind_sound.specs.Cells.{cell_of}
use Rattle.kind_sound.proofs.Walks.{Noting, noting_first, noting_next, noting_bad, noting_last}
use Rattle.kind_sound.proofs.note_starts.Goals as goal

pub loop-at-init : goal.loop-at-init
loop-at-init c = let s = c.args.records.now in noting_first s.strings s.kind s.bytes.now c.args.cells.now c.requires

pub returns-in_default : goal.returns-in_default
returns-in_default c =
    let s = c.args.records.now in
    let l = c.loop-at in
    record {
      whole = sym (noting_bad s.strings s.kind s.bytes.now l.cells l.at l.invariant c.loop-at-test.true (sym c.in_default.is ∙ c.end.ensures));
      noted = λ z. clash z refl;
    }

-- a record more
turn : (c : goal.After-slice_known-in-loop-at-1) → let s = c.args.records.now in
    let l = c.loop-at in
    (l.at < c.in-Some.e) × Noting s.strings s.kind s.bytes.now (set l.cells (l.at / 45) (cell_of l.at)) c.in-Some.e
turn c =
    let s = c.args.records.now in
    let l = c.loop-at in
    noting_next s.strings s.kind s.bytes.now l.cells l.at l.invariant c.in-Some.e (sym c.in-Some.is ∙ c.end.ensures)

pub loop-at-smaller : goal.loop-at-smaller
loop-at-smaller c = omega (arith, (turn c).0, (turn c).1.inside)

pub loop-at-preserved : goal.loop-at-preserved
loop-at-preserved c = rw c.note.ensures (turn c).1

pub returns : goal.returns
returns c =
    let s = c.args.records.now in
    let l = c.loop-at in
    let w = noting_last s.strings s.kind s.bytes.now l.cells l.at l.invariant c.loop-at-test.false in
    record { whole = sym w.0; noted = λ z. w.1 }
