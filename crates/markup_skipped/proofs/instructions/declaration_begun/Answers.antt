-- `markup_skipped::instructions::declaration_begun`: at the beginning of a file the declaration.
use mathlib.Core.Path.{sym, ◌∙◌}
use Rattle.base.specs.Bytes.{both, same}
use Rattle.markup_skipped.proofs.Kept.{wrapped_forgotten}
use Rattle.markup_skipped.proofs.instructions.declaration_begun.Goals as goal

pub returns-then-first : goal.returns-then-first
unfolding both same
returns-then-first c = rw c.if-first.true (c.declared.ensures ∙ (rw c.declaration_step.ensures (sym (wrapped_forgotten _))))

pub returns-else-first : goal.returns-else-first
unfolding both same
returns-else-first c = rw c.if-first.false
