-- The line of a refusal is short, so an output of 44 bytes has room for it.
use native.Mathlib.Omega.{arith}
use mir.Syntax.{w32}
use mir.Val.{SFits}
use Rattle.program_ending.proofs.Ends.{refused_put}
use borrow.Author.Rules.{rules}
use Rattle.program_ending.proofs.put_refusal.Goals as goal

pub returns : goal.returns
returns c =
    λ l.
    let a = c.args in
    let y = c.from-reply in
    let f : SFits w32 y.result.held = search rules in
    rw c.unwrap_or.ensures
    (refused_put a.out.now l a.refusal a.line (omega arith) y.result f y.ensures _ _ c.put_refused.ensures)
