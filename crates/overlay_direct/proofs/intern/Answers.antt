-- What the store answers, with no chains.
use mathlib.Core.Path.{sym, ◌∙◌}
use Rattle.overlay.specs.Lent.{overlay_held}
use Rattle.overlay.proofs.Checked.{checked_sound}
use Rattle.overlay_direct.proofs.Parts.{intern_text}
use Rattle.overlay_direct.proofs.intern.Goals as goal

pub returns-then-is_text-clause-done : goal.returns-then-is_text-clause-done
returns-then-is_text-clause-done c =
    let o = overlay_held c.args.storage.now in
    let s = checked_sound o c.in_ok-check_sound.ensures in
    intern_text o c.args.text.now s (sym c.is_text.ensures ∙ c.if-is_text.true) _ c.store_text.ensures.done
