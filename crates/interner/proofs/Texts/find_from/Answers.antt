use Rattle.std.specs.Prelude.{None}
use Prim.Native.Nat.{◌+◌, ◌-◌, suc}
use mathlib.Core.Path.{◌≡◌, sym, ◌∙◌}
use mathlib.Core.Bool.{true, false}
use native.Mathlib.Numerals.{add-one}
use native.Mathlib.Omega.{arith}
use Rattle.base.proofs.Split.{by_le}
use Rattle.interner.specs.Strings.{is_at, find_from}
use Rattle.interner.proofs.Finds.{find_none, find_here, find_on, find_past}
use Rattle.interner.proofs.Texts.find_from.Goals as goal

pub returns-then-is_at : goal.returns-then-is_at
returns-then-is_at c =
    let a = c.args in
    let l = c.loop-h in
    let e : a.count - l.h ≡ suc (a.count - (l.h + 1)) = omega arith in
    let y : is_at a.self.now.spans.now a.self.now.bytes.now a.text.now l.h ≡ true = cc in
    sym (find_here a.self.now.spans.now a.self.now.bytes.now a.text.now (a.count - (l.h + 1)) l.h y) ∙ (rw e at l.invariant)

pub loop-h-preserved : goal.loop-h-preserved
loop-h-preserved c =
    let a = c.args in
    let l = c.loop-h in
    let e : a.count - l.h ≡ suc (a.count - (l.h + 1)) = omega arith in
    let y : is_at a.self.now.spans.now a.self.now.bytes.now a.text.now l.h ≡ false = cc in
    rw (add-one l.h) (sym (find_on a.self.now.spans.now a.self.now.bytes.now a.text.now (a.count - suc l.h) l.h y)) ∙ (rw (e, add-one) at l.invariant)

pub returns : goal.returns
returns c =
    let a = c.args in
    let l = c.loop-h in
    let none : None ≡ find_from a.self.now.spans.now a.self.now.bytes.now a.text.now (a.count - l.h) l.h =
    by_le a.count l.h
    (λ h. let e : a.count - l.h ≡ 0 = omega arith in rw e (sym (find_none a.self.now.spans.now a.self.now.bytes.now a.text.now l.h)))
    (λ h. sym (find_past a.self.now.spans.now a.self.now.bytes.now a.text.now (a.count - l.h) l.h (omega arith))) in
    none ∙ l.invariant
