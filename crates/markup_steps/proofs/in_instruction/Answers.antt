-- `in_instruction`: what the step of the instruction says, as a step of the markup.
use mathlib.Core.Path.{◌∙◌}
use Rattle.markup.specs.Automaton.{instruction_step, markup_step}
use Rattle.markup_tags.specs.Output.{written_by}
use Rattle.markup_skipped.specs.Instructions.{instruction_for}
use Rattle.markup_steps.proofs.Wrapped.{instruction_is, instruction_grown}
use Rattle.markup_steps.proofs.in_instruction.Goals as goal

pub returns-clause-moved : goal.returns-clause-moved
unfolding markup_step
returns-clause-moved c = c.of_instruction.ensures ∙ instruction_is c.instruction_step.result (instruction_step (instruction_for c.args.place) c.args.c) c.instruction_step.ensures

pub returns-clause-output : goal.returns-clause-output
unfolding markup_step written_by
returns-clause-output c = instruction_grown (instruction_for c.args.place) (instruction_step (instruction_for c.args.place) c.args.c)
