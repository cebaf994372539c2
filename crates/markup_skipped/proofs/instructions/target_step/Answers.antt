-- `markup_skipped::instructions::target_step`: a letter more of the target, or its end.
use mathlib.Core.Path.{◌≡◌, sym, ◌∙◌}
use mathlib.Core.Bool.{true, false}
use Rattle.markup.specs.Names.{name_char}
use Rattle.markup.specs.Automaton.{instruction_step}
use Rattle.markup_skipped.specs.Instructions.{instruction_kept}
use Rattle.markup_skipped.proofs.instructions.target_step.Goals as goal

pub returns-then-is_name_char : goal.returns-then-is_name_char
unfolding instruction_step instruction_kept
returns-then-is_name_char c = let t : name_char c.args.c ≡ true = sym c.is_name_char.ensures ∙ c.if-is_name_char.true in rw (t, c.next_letter.ensures)

pub returns-else-is_name_char : goal.returns-else-is_name_char
unfolding instruction_step
returns-else-is_name_char c = let t : name_char c.args.c ≡ false = sym c.is_name_char.ensures ∙ c.if-is_name_char.false in rw t c.name_ended.ensures
