-- What the store answers, or 3, where the overlay is sound.
use mathlib.Core.Path.{sym, ◌∙◌}
use Rattle.overlay.specs.Lent.{overlay_held}
use Rattle.overlay_direct.proofs.Parts.{intern_text}
use Rattle.overlay_direct.specs.Calls.{intern_on}
use Rattle.overlay_texts.proofs.intern_untested.Goals as goal

pub returns-then-is_text-clause-done : goal.returns-then-is_text-clause-done
returns-then-is_text-clause-done c =
    λ s g. intern_text (overlay_held c.args.storage.now) c.args.text.now s (sym c.is_text.ensures ∙ c.if-is_text.true) _ (c.intern.ensures.done g)

pub returns-clause-done : goal.returns-clause-done
unfolding intern_on
returns-clause-done c = λ s g. rw (s, ← c.is_text.ensures, c.if-is_text.false)
