-- Tags one after the other.
use Prim.Native.Nat.{◌+◌, ◌-◌}
use mathlib.Core.Path.{◌≡◌, sym, ◌∙◌, ap}
use mathlib.Core.Bool.{true, false}
use native.Mathlib.Omega.{arith}
use lib.Dec.{ltb}
use borrow.Author.Tests.{lt-ltb, le-ltb}
use Rattle.little.specs.Little.{value_at}
use Rattle.compact_legal.specs.Judge.{tags_end}
use Rattle.compact_legal.proofs.TagRuns.{after, after_all, after_after, after_true, tag_room, tags_none, tags_short, tags_unheld, tags_next}
use Rattle.compact_legal.proofs.PartBytes.tags_end.Goals as goal

pub loop-init : goal.loop-init
loop-init c =
    let a = c.args in
    let p = a.self.now in
    let whole : a.n - 0 ≡ a.n = omega arith in
    (omega arith, rw whole (after_true (tags_end p.strings a.n p.bytes.now a.at)))

pub returns-in_err-next : goal.returns-in_err-next
returns-in_err-next c =
    let a = c.args in
    let p = a.self.now in
    let l = c.loop in
    let x = tags_short p.strings p.bytes.now l.offset l.invariant.0 (a.n - l.counter) (omega arith) c.in_err-next.ensures.ends in
    rw c.from_residual.ensures (rw x at l.invariant.1)

pub returns-then-get_u32-self : goal.returns-then-get_u32-self
returns-then-get_u32-self c =
    let a = c.args in
    let p = a.self.now in
    let l = c.loop in
    let k : ltb (value_at 4 p.bytes.now l.offset) p.strings ≡ false = rw (← c.get_u32.ensures) (le-ltb _ _ c.if-get_u32-self.true) in
    let x = tags_unheld p.strings p.bytes.now l.offset l.invariant.0 c.in_ok-next.next c.in_ok-next.ensures.ends (a.n - l.counter) (omega arith) k in
    rw x at l.invariant.1

pub loop-preserved : goal.loop-preserved
loop-preserved c =
    let a = c.args in
    let p = a.self.now in
    let l = c.loop in
    let r = tag_room p.strings p.bytes.now l.offset l.invariant.0 c.in_ok-next.next c.in_ok-next.ensures.ends in
    let k : ltb (value_at 4 p.bytes.now l.offset) p.strings ≡ true = rw (← c.get_u32.ensures) (lt-ltb _ _ c.if-get_u32-self.false) in
    let x = tags_next p.strings p.bytes.now l.offset l.invariant.0 c.in_ok-next.next c.in_ok-next.ensures.ends (a.n - l.counter) (omega arith) k in
    let fewer : a.n - l.counter - 1 ≡ a.n - (l.counter + 1) = omega arith in
    (r.1, rw c.is_text-text.ensures (after_after l.text _ _ ∙ (ap (after l.text) (rw fewer at (sym x)) ∙ l.invariant.1)))

pub returns : goal.returns
returns c =
    let a = c.args in
    let p = a.self.now in
    let l = c.loop in
    let z : 0 ≡ (a.n - l.counter) = omega arith in
    sym (after_all l.text l.offset) ∙ (ap (after l.text) (sym (tags_none p.strings p.bytes.now l.offset l.invariant.0)) ∙ (ap (λ n. after l.text (tags_end p.strings n p.bytes.now l.offset)) z ∙ l.invariant.1))
