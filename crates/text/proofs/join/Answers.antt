-- `text::join` meets its contract, by the laws of a joined byte.
use mathlib.Core.Path.{sym}
use native.Mathlib.Omega.{arith}
use Rattle.text.proofs.Chars.{join_yes, join_below, join_above}
use Rattle.text.proofs.Classes.{join_past}
use Rattle.text.proofs.join.Goals as goal

pub returns-in_err-b-clause-joined : goal.returns-in_err-b-clause-joined
returns-in_err-b-clause-joined c =
    let l = c.in_err-b.ensures.lookup in
    rw c.from_residual.ensures (sym (join_past c.args.v c.args.s.now c.args.at l.3))

pub returns-in-128-to-191-clause-joined : goal.returns-in-128-to-191-clause-joined
returns-in-128-to-191-clause-joined c =
    let g = c.in_ok-b.ensures.lookup in
    rw (c.from.ensures, ← g.3.1 0) (sym (join_yes _ _ (omega arith) (omega arith)))

pub returns-in_default-clause-joined : goal.returns-in_default-clause-joined
returns-in_default-clause-joined c =
    let g = c.in_ok-b.ensures.lookup in
    rw (← g.3.1 0) (sym (join_below _ _ (omega arith)))

pub returns-in_default-2-clause-joined : goal.returns-in_default-2-clause-joined
returns-in_default-2-clause-joined c =
    let g = c.in_ok-b.ensures.lookup in
    rw (← g.3.1 0) (sym (join_above _ _ (omega arith)))
