-- `markup_skipped::instructions::instruction_step`: each place by its own function.
use mathlib.Core.Path.{sym, ◌∙◌}
use Rattle.markup.specs.Automaton.{instruction_step}
use Rattle.markup_skipped.proofs.Kept.{wrapped_forgotten}
use Rattle.markup_skipped.proofs.instructions.instruction_step.Goals as goal

pub returns-in-Declaration : goal.returns-in-Declaration
unfolding instruction_step
returns-in-Declaration c = rw c.in-Declaration.is (c.declared.ensures ∙ rw c.declaration_step.ensures (sym (wrapped_forgotten _)))
