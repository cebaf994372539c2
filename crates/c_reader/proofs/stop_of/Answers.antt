-- No mark for 0, else the refusal of the number.
use mathlib.Core.Path.{◌≡◌, sym, ◌∙◌}
use mathlib.Core.Bool.{true}
use lib.Dec.{eqb}
use borrow.Author.Tests.{ne_eqb, eq-eqb}
use Rattle.base.specs.Bytes.{both, either}
use Rattle.base.proofs.Split.{by_bool, either_left, either_right}
use Rattle.c_reader.specs.Words.{stop_in}
use Rattle.c_reader.proofs.Coded.{coded, not_coded, narrow, wide, held_wide, held_given, numberless, numbered, unnumbered}
use Rattle.c_reader.proofs.stop_of.Goals as goal
use Rattle.c_reader.proofs.stop_of.Goals.{then-line-eq0, else-line-eq0, then-number-eq12-via-then-number-eq12, then-number-eq12-via-else-number-eq12+then-bits-eq0}

pub returns-then-number-eq0 : goal.returns-then-number-eq0
unfolding stop_in both
returns-then-number-eq0 c =
    let a = c.args in
    rw (c.if-number-eq0.true, unnumbered a.line a.held, c.then_some.ensures) (elim c.if-line-eq0.branch [
      | then-line-eq0 w ↦ rw (w.then_some-is, w.if-line-eq0.true) (by_bool (eqb a.held 0) (λ t. rw t) (λ t. rw t))
      | else-line-eq0 w ↦ rw (w.then_some-is, ne_eqb a.line 0 w.if-line-eq0.false)
    ])

pub returns-in_err-bits : goal.returns-in_err-bits
returns-in_err-bits c =
    let a = c.args in
    rw (c.from_residual.ensures, held_wide a.number a.line a.held (wide _ _ _ c.try_from.ensures c.in_err-bits.ensures.value))

pub returns-in_err-refusal : goal.returns-in_err-refusal
returns-in_err-refusal c =
    let a = c.args in
    let n = narrow _ _ _ c.try_from.ensures c.in_ok-bits.ensures.value in
    rw (c.from_residual-in_err-refusal.ensures, numberless a.number a.line a.held c.if-number-eq0.false (rw n.1 at (not_coded _ c.in_err-refusal.ensures)))

pub returns-then-number-eq12 : goal.returns-then-number-eq12
unfolding stop_in
returns-then-number-eq12 c =
    let a = c.args in
    let n = narrow _ _ _ c.try_from.ensures c.in_ok-bits.ensures.value in
    let r = coded c.in_ok-refusal.ensures in
    let k : either (eqb a.number 12) (eqb a.held 0) ≡ true = elim c.then-number-eq12.branch [
      | then-number-eq12-via-then-number-eq12 w ↦ either_left _ _ (eq-eqb a.number 12 w.if-number-eq12.true)
      | then-number-eq12-via-else-number-eq12+then-bits-eq0 w ↦ either_right _ (eq-eqb a.held 0 (sym n.1 ∙ w.if-bits-eq0.true))
    ] in
    rw (numbered a.number a.line a.held c.if-number-eq0.false (rw n.1 at r.0) n.0 k, ne_eqb a.number 0 c.if-number-eq0.false, r.1, n.1)

pub returns : goal.returns
returns c =
    let a = c.args in
    let n = narrow _ _ _ c.try_from.ensures c.in_ok-bits.ensures.value in
    rw (held_given a.number a.line a.held c.if-number-eq12.false (rw n.1 at c.if-bits-eq0.false))
