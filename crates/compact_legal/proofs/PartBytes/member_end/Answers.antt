-- A member of 13 bytes: its type and its role.
use Rattle.std.specs.Prelude.{Bool, true, false, cond, None, Some, ℕ}
use Rattle.std.specs.Bool.{then_some}
use mathlib.Core.Path.{◌≡◌, refl, ◌∙◌}
use Rattle.little.proofs.Ends.{lies_within, runs_past}
use Rattle.base.proofs.Tests.{and_both}
use Rattle.compact_legal.proofs.Parts.{member_bad, member_is}
use Rattle.compact_legal.proofs.PartBytes.member_end.Goals as goal

by_test : (b : Bool) (e : ℕ) → then_some b e ≡ cond b (Some e) None
by_test true e = refl
by_test false e = refl

pub returns-in_err-end : goal.returns-in_err-end
returns-in_err-end c =
    let a = c.args in
    let p = a.self.now in
    rw c.from_residual.ensures (member_bad p.strings p.bytes.now a.at c.requires (runs_past a.at 13 _ c.in_err-end.ensures))

pub returns : goal.returns
returns c =
    let a = c.args in
    let p = a.self.now in
    let w = lies_within a.at 13 _ c.in_ok-end.end c.in_ok-end.ensures in
    rw (member_is p.strings p.bytes.now a.at c.requires w.fits, ← and_both, ← c.get_u8-known.ensures, ← c.get_u32.ensures, ← w.is) (c.then_some.ensures ∙ by_test _ _)
