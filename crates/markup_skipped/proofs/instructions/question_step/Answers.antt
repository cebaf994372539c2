-- `markup_skipped::instructions::question_step`: the first letter of a name, or no instruction.
use mathlib.Core.Path.{◌≡◌, sym, ◌∙◌}
use mathlib.Core.Bool.{true, false}
use Rattle.markup.specs.Names.{name_start_char}
use Rattle.markup.specs.Automaton.{instruction_step}
use Rattle.markup_skipped.specs.Instructions.{instruction_kept}
use Rattle.markup_skipped.proofs.instructions.question_step.Goals as goal

pub returns-then-is_name_start_char : goal.returns-then-is_name_start_char
unfolding instruction_step instruction_kept
returns-then-is_name_start_char c = let t : name_start_char c.args.c ≡ true = sym c.is_name_start_char.ensures ∙ c.if-is_name_start_char.true in rw (t, c.first_letter.ensures)

pub returns-else-is_name_start_char : goal.returns-else-is_name_start_char
unfolding instruction_step instruction_kept
returns-else-is_name_start_char c = let t : name_start_char c.args.c ≡ false = sym c.is_name_start_char.ensures ∙ c.if-is_name_start_char.false in rw t
