-- The delete on the part, by the counter's word.
use native.Mathlib.Omega.{arith}
use Rattle.std.proofs.lemmas.Grind.{common_steps}
use Rattle.kind_store.proofs.Settings.{deleted_by}
use Rattle.overlay_store.proofs.delete_in.Goals as goal

pub returns : goal.returns
returns c =
    let done = deleted_by _ _ c.into.ensures _ _ _ _ c.delete-answer.ensures.done in
    grind (arith, common_steps, done)
