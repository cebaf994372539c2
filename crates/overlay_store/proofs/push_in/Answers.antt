-- The push of the part, by the counter's word.
use native.Mathlib.Omega.{arith}
use Rattle.std.proofs.lemmas.Grind.{common_steps}
use Rattle.kind_store.proofs.Settings.{pushed_by}
use Rattle.overlay_store.proofs.push_in.Goals as goal

pub returns : goal.returns
returns c =
    let done = pushed_by _ _ c.into.ensures _ _ _ _ _ c.push-answer.ensures.done in
    grind (arith, common_steps, done)
