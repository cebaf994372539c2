-- A tag stands where its bytes and its value's are there, and its value is text.
use Rattle.std.specs.Prelude.{Bool, true, false, cond, None, Option, Some}
use Rattle.std.specs.Bool.{then_some}
use Prim.Native.Nat.{◌+◌, ◌-◌}
use mathlib.Core.Path.{◌≡◌, refl, ◌∙◌}
use native.Mathlib.Omega.{arith}
use lib.ListN.{take, drop}
use Rattle.little.proofs.Ends.{lies_within, runs_past}
use Rattle.text.specs.Check.{is_text}
use Rattle.compact.specs.declared.TagPart.{TagPart}
use Rattle.compact.proofs.Steps.{tag_lacks, tag_runs_over, tag_checked}
use Rattle.compact.proofs.TagPartPart.there.Goals as goal

by_test : (b : Bool) (t : TagPart) → then_some b t ≡ cond b (Some t) None
by_test true t = refl
by_test false t = refl

pub returns-in_err-start : goal.returns-in_err-start
returns-in_err-start c = let a = c.args in rw c.from_residual.ensures (tag_lacks a.bytes.now a.offset (runs_past a.offset 8 _ c.in_err-start.ensures))

pub returns-in_err-end : goal.returns-in_err-end
returns-in_err-end c =
    let a = c.args in
    let w = lies_within a.offset 8 _ c.in_ok-start.start c.in_ok-start.ensures in
    let n = c.get_u32-len in
    let past = runs_past c.in_ok-start.start n.result _ c.in_err-end.ensures in
    rw c.from_residual-in_err-end.ensures (tag_runs_over a.bytes.now a.offset w.fits n.result n.ensures (rw w.is at past))

pub returns : goal.returns
returns c =
    let a = c.args in
    let s = a.bytes.now in
    let w = lies_within a.offset 8 _ c.in_ok-start.start c.in_ok-start.ensures in
    let n = c.get_u32-len in
    let v = lies_within c.in_ok-start.start n.result _ c.in_ok-end.end c.in_ok-end.ensures in
    let long : c.in_ok-end.end - c.in_ok-start.start ≡ n.result = omega (arith, v.is) in
    let e : c.is_text.result ≡ is_text (take n.result (drop (a.offset + 8) s)) = rw (← long, ← w.is) c.is_text.ensures in
    let x = tag_checked s a.offset w.fits n.result n.ensures (omega (arith, w.is, v.fits)) in
    c.then_some.ensures ∙ (by_test _ _ ∙ rw (e, c.get_u32.ensures, w.is) x)
