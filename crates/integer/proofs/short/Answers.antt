use Prim.Native.Nat.{◌-◌}
use mathlib.Core.Path.{sym, ◌∙◌}
use native.Mathlib.Omega.{arith}
use lib.ListN.{get_or}
use borrow.Author.Tests.{eqb-true, eqb-false}
use Rattle.integer.proofs.Digits.{no_digits, digits_after, stops_here, goes_on, all_read, one_more, number_fits, digit_not, digit_of}
use Rattle.integer.proofs.short.Goals as goal

pub returns-then-is_empty : goal.returns-then-is_empty
returns-then-is_empty c = sym (no_digits c.args.s.now (eqb-true _ _ (sym c.is_empty.ensures ∙ c.if-is_empty.true)))

pub loop-b-init : goal.loop-b-init
loop-b-init c =
    let h = eqb-false _ _ (sym c.is_empty.ensures ∙ c.if-is_empty.false) in
    (omega arith, sym (digits_after c.args.s.now (omega arith)))

pub returns-then-not-is_ascii_digit : goal.returns-then-not-is_ascii_digit
returns-then-not-is_ascii_digit c =
    let l = c.loop-b in
    sym (stops_here c.args.s.now l.b-index (omega arith) l.n (digit_not _ c.if-not-is_ascii_digit.ensures.cases)) ∙ l.invariant.1

pub overflow_mul-n : goal.overflow_mul-n
overflow_mul-n c = let l = c.loop-b in omega (arith, number_fits l.n l.b-index 0 l.invariant.0 (omega arith) (omega arith))

pub overflow_add-n : goal.overflow_add-n
overflow_add-n c =
    let l = c.loop-b in
    let d = c.if-not-is_ascii_digit.ensures.cases in
    omega (arith, c.from.ensures, number_fits l.n l.b-index (get_or c.args.s.now l.b-index 0 - 48) l.invariant.0 (omega arith) (omega arith))

pub loop-b-preserved : goal.loop-b-preserved
loop-b-preserved c =
    let l = c.loop-b in
    let a = c.args in
    let d = c.if-not-is_ascii_digit.ensures.cases in
    (rw c.from.ensures (one_more l.n l.b-index _ l.invariant.0 (omega arith)), rw c.from.ensures (sym (goes_on a.s.now l.b-index (omega arith) l.n (digit_of _ d.0 d.1)) ∙ l.invariant.1))

pub returns : goal.returns
returns c =
    let l = c.loop-b in
    sym (all_read c.args.s.now l.b-index l.n (omega arith)) ∙ l.invariant.1
