use Prim.Native.Nat.{suc, ◌-◌}
use mathlib.Core.Path.{◌≡◌, refl, sym, ◌∙◌, ap}
use mathlib.Core.List.{[]}
use native.Mathlib.Omega.{arith}
use lib.ListN.{length-set}
use Rattle.little.specs.Little.{over}
use Rattle.little.proofs.Overs.{over_nothing}
use Rattle.decimal.proofs.Numbers.{low_digits, low_none}
use Rattle.decimal.proofs.Puts.{one_stored, two_stored, all_digits}
use Rattle.decimal.proofs.put_digits.Goals as goal

pub loop-i-init : goal.loop-i-init
loop-i-init c = (omega arith, (refl, refl))

pub loop-i-preserved : goal.loop-i-preserved
loop-i-preserved c =
    let a = c.args in
    let l = c.loop-i in
    let m : suc (suc (l.i - 2)) ≡ l.i = omega arith in (
      omega arith,
      (
        simp length-set l.invariant.1.0,
        two_stored l.out 0 (l.i - 2) l.x _ _ _ (omega arith) refl (omega arith) (omega arith) ∙ rw m l.invariant.1.1,
      ),
    )

pub shape_of-out-then-i-eq1 : goal.shape_of-out-then-i-eq1
shape_of-out-then-i-eq1 c = simp length-set c.loop-i.invariant.1.0

pub returns-then-i-eq1 : goal.returns-then-i-eq1
returns-then-i-eq1 c e =
    let a = c.args in
    let l = c.loop-i in
    let z = c.if-i-eq1.true in
    one_stored l.out 0 l.x (omega arith) ∙ (rw z at l.invariant.1.1 ∙ all_digits a.out.now a.v e)

pub returns-else-i-eq1 : goal.returns-else-i-eq1
returns-else-i-eq1 c e =
    let a = c.args in
    let l = c.loop-i in
    let z : l.i ≡ 0 = omega arith in
    let f : low_digits l.i l.x ≡ [] = rw z (low_none l.x) in
    sym (over_nothing l.out 0) ∙ (ap (over l.out 0) (sym f) ∙ (l.invariant.1.1 ∙ all_digits a.out.now a.v e))
