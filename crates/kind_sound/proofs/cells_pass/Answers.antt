-- The walk, then the rows.
use mathlib.Core.Path.{sym, ◌∙◌}
use Rattle.base.specs.Bytes.{both}
use Rattle.base.proofs.Split.{both_no_left}
use Rattle.kind_sound.proofs.cells_pass.Goals as goal

pub returns-then-note_starts : goal.returns-then-note_starts
unfolding both
returns-then-note_starts c = rw (sym c.note_starts.ensures.whole ∙ c.if-note_starts.true) c.rows_pass.ensures

pub returns : goal.returns
returns c = sym (both_no_left _ _ (sym c.note_starts.ensures.whole ∙ c.if-note_starts.false))
