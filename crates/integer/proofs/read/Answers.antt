-- `read` reads a sign and a magnitude: one law for each first byte. What the width says of its two numbers makes the answer that of the width.
use Prim.Native.Nat.{◌-◌}
use mathlib.Core.Path.{◌≡◌, sym, ◌∙◌}
use native.Mathlib.Omega.{arith}
use mir.ValLaws.{pow-bits}
use lib.ListN.{length, take, drop, length-drop}
use lib.Seq.{take_all}
use Rattle.base.specs.Bytes.{Bytes}
use Rattle.integer.proofs.Integers.{read_empty, read_plus, read_plain, minus_not, minus_zero, minus_more, reads, at_most_lem}
use Rattle.integer.proofs.read.Goals as goal

-- what is left behind the first byte
rest : (s : Bytes) → take (length s - 1) (drop 1 s) ≡ drop 1 s
rest s = take_all (length s - 1) (drop 1 s) (omega (arith, length-drop 1 s))

pub overflow_sub-result-in_default-2 : goal.overflow_sub-result-in_default-2
overflow_sub-result-in_default-2 g c =
    let n = at_most_lem _ c.in_ok-n-in-45.ensures in
    omega (arith, n, c.MOST-in-45.ensures, c.ONES.ensures, g.W.FieldWidth.most, g.W.FieldWidth.ones, pow-bits g.W.FieldWidth.width)

pub returns-in-empty : goal.returns-in-empty
returns-in-empty g c = let w = g.W.FieldWidth in sym (read_empty w.MOST w.ONES c.args.s.now (omega arith)) ∙ reads w.width c.args.s.now w.most w.ones

pub returns-in-43 : goal.returns-in-43
returns-in-43 g c =
    let s = c.args.s.now in
    let w = g.W.FieldWidth in
    rw (c.MOST.ensures, rest s) at c.magnitude.ensures ∙ (sym (read_plus w.MOST w.ONES s (omega arith) (omega arith)) ∙ reads w.width s w.most w.ones)

pub returns-in_err-n-in-45 : goal.returns-in_err-n-in-45
returns-in_err-n-in-45 g c =
    let s = c.args.s.now in
    let w = g.W.FieldWidth in
    let e = rw (c.MOST-in-45.ensures, rest s) at c.in_err-n-in-45.ensures in
    c.from_residual.ensures ∙ (sym (minus_not w.MOST w.ONES s (omega arith) (omega arith) e) ∙ reads w.width s w.most w.ones)

pub returns-in-0 : goal.returns-in-0
returns-in-0 g c =
    let s = c.args.s.now in
    let w = g.W.FieldWidth in
    let e = rw (c.MOST-in-45.ensures, rest s) at c.in_ok-n-in-45.ensures in
    sym (minus_zero w.MOST w.ONES s (omega arith) (omega arith) e c.in-0.is) ∙ reads w.width s w.most w.ones

pub returns-in_default-2 : goal.returns-in_default-2
returns-in_default-2 g c =
    let s = c.args.s.now in
    let w = g.W.FieldWidth in
    let e = rw (c.MOST-in-45.ensures, rest s) at c.in_ok-n-in-45.ensures in
    rw c.ONES.ensures (sym (minus_more w.MOST w.ONES s (omega arith) (omega arith) e (λ z. omega arith)) ∙ reads w.width s w.most w.ones)

pub returns-in_default : goal.returns-in_default
returns-in_default g c =
    let s = c.args.s.now in
    let w = g.W.FieldWidth in
    rw c.MOST-in_default.ensures at c.magnitude-in_default.ensures
    ∙ (sym (read_plain w.MOST w.ONES s (omega arith) (λ e. omega arith) (λ e. omega arith)) ∙ reads w.width s w.most w.ones)
