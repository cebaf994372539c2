use Prim.Native.Nat.{◌+◌, ◌-◌}
use mathlib.Core.Path.{◌≡◌, sym, ◌∙◌, ap}
use native.Mathlib.Omega.{arith}
use Rattle.compact_legal.specs.Judge.{members_end}
use Rattle.compact_legal.proofs.Ends.{members_none, members_bad, members_at}
use Rattle.compact_legal.proofs.PartBytes.members_end.Goals as goal

pub loop-init : goal.loop-init
loop-init c = let whole : c.args.n - 0 ≡ c.args.n = omega arith in (omega arith, rw whole)

pub returns-in_err-offset : goal.returns-in_err-offset
returns-in_err-offset c =
    let a = c.args in
    let l = c.loop in
    rw c.from_residual.ensures (sym (members_bad a.self.now.strings a.self.now.bytes.now (a.n - l.counter) l.offset (omega arith) (sym c.in_err-offset.ensures)) ∙ l.invariant.1)

pub loop-preserved : goal.loop-preserved
loop-preserved c =
    let a = c.args in
    let l = c.loop in
    let x = members_at a.self.now.strings a.self.now.bytes.now (a.n - l.counter) l.offset _ (omega arith) l.invariant.0 (sym c.in_ok-offset.ensures) in
    let fewer : a.n - l.counter - 1 ≡ a.n - (l.counter + 1) = omega arith in
    (x.1.1, rw fewer at (sym x.0) ∙ l.invariant.1)

pub returns : goal.returns
returns c =
    let a = c.args in
    let l = c.loop in
    let z : (a.n - l.counter) ≡ 0 = omega arith in
    sym (members_none a.self.now.strings a.self.now.bytes.now l.offset l.invariant.0) ∙ (ap (λ n. members_end a.self.now.strings n a.self.now.bytes.now l.offset) (sym z) ∙ l.invariant.1)
