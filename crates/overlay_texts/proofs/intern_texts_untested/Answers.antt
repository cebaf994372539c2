-- Chains that hold no handle.
use mathlib.Core.Path.{refl}
use Rattle.overlay.specs.Lent.{overlay_held}
use Rattle.overlay_texts.proofs.Onward.{zeros_chained}
use Rattle.overlay_texts.proofs.intern_texts_untested.Goals as goal

pub intern_texts_by-requires-clause-chained : goal.intern_texts_by-requires-clause-chained
intern_texts_by-requires-clause-chained c = zeros_chained _ _ (overlay_held c.args.storage.now) refl refl c.requires.given
