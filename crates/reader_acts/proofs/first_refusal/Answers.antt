-- 12 is answered with the known version, and every other claim with what was refused.
use mathlib.Core.Path.{refl, ◌∙◌}
use Rattle.std.proofs.Common.{rules}
use mir.Syntax.{w32}
use mir.Val.{SFits}
use mir.Facts.{to_z-of_z}
use Rattle.reader_acts.proofs.Bits.{act_claims}
use Rattle.reader_acts.proofs.first_refusal.Goals as goal

pub returns-in-Ok : goal.returns-in-Ok
returns-in-Ok g c =
    let e = c.claim-claim.ensures ∙ act_claims c.args.act.now in rw (← e, ← c.check_claim.ensures, c.in-Ok.is) refl

pub returns-in-Err : goal.returns-in-Err
returns-in-Err g c =
    let e = c.claim-claim.ensures ∙ act_claims c.args.act.now in
    let told : SFits w32 c.in-Err.held = search rules in
    rw (to_z-of_z told, ← e, ← c.check_claim.ensures, c.in-Err.is) refl
