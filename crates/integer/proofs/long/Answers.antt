use Prim.Native.Nat.{◌<◌, ◌+◌, ◌-◌, ◌*◌}
use mathlib.Core.Path.{sym, ◌∙◌, ap}
use native.Mathlib.Omega.{arith}
use lib.ListN.{get_or}
use borrow.Author.Tests.{eqb-true, eqb-false}
use Rattle.integer.specs.Bounded.{at_most}
use Rattle.integer.proofs.Digits.{none_left, begins, ends, stops, goes_on, too_large, digit_not, digit_of}
use Rattle.integer.proofs.long.Goals as goal
use Rattle.integer.proofs.long.Goals.{then-most-d-via-then-most-d, then-most-d-via-else-most-d+then-most-d-2}

pub returns-then-is_empty : goal.returns-then-is_empty
returns-then-is_empty c =
    sym (none_left c.args.s.now c.args.most (eqb-true _ _ (sym c.is_empty.ensures ∙ c.if-is_empty.true)))

pub loop-b-init : goal.loop-b-init
loop-b-init c =
    let h = eqb-false _ _ (sym c.is_empty.ensures ∙ c.if-is_empty.false) in
    (omega arith, begins c.args.s.now c.args.most (omega arith))

pub returns-then-not-is_ascii_digit : goal.returns-then-not-is_ascii_digit
returns-then-not-is_ascii_digit c =
    let l = c.loop-b in
    let a = c.args in
    sym (stops a.s.now l.b-index (omega arith) a.most l.n (digit_not _ c.if-not-is_ascii_digit.ensures.cases)) ∙ l.invariant.1

pub returns-then-most-d : goal.returns-then-most-d
returns-then-most-d c =
    let l = c.loop-b in
    let a = c.args in
    let d = c.if-not-is_ascii_digit.ensures.cases in
    let large : a.most < l.n * 10 + (get_or a.s.now l.b-index 0 - 48) =
    elim c.then-most-d.branch [ then-most-d-via-then-most-d w ↦ omega (arith, c.from-d.ensures) | then-most-d-via-else-most-d+then-most-d-2 w ↦ omega (arith, c.from-d.ensures) ] in
    sym (too_large a.s.now l.b-index (omega arith) a.most l.n (digit_of _ d.0 d.1) large) ∙ l.invariant.1

pub loop-b-preserved : goal.loop-b-preserved
loop-b-preserved c =
    let l = c.loop-b in
    let a = c.args in
    let d = c.if-not-is_ascii_digit.ensures.cases in
    (omega arith, rw c.from-d.ensures (ap (at_most a.most) (sym (goes_on a.s.now l.b-index (omega arith) l.n (digit_of _ d.0 d.1))) ∙ l.invariant.1))

pub returns : goal.returns
returns c =
    let l = c.loop-b in
    let a = c.args in
    sym (ends a.s.now a.most l.n l.b-index (omega arith) l.invariant.0) ∙ l.invariant.1
