-- `markup_skipped::instructions::target_ended`: white space, a `?`, or no instruction.
use mathlib.Core.Path.{◌≡◌, sym, ◌∙◌}
use mathlib.Core.Bool.{true, false}
use borrow.Author.Tests.{ne_eqb}
use Rattle.markup.specs.Names.{white_space}
use Rattle.markup.specs.Automaton.{target_ended}
use Rattle.markup_skipped.specs.Instructions.{instruction_kept}
use Rattle.markup_skipped.proofs.instructions.target_ended.Goals as goal

pub returns-then-is_white_space : goal.returns-then-is_white_space
unfolding target_ended instruction_kept
returns-then-is_white_space c = let t : white_space c.args.c ≡ true = sym c.is_white_space.ensures ∙ c.if-is_white_space.true in rw t

pub returns-then-c-eq63 : goal.returns-then-c-eq63
unfolding target_ended instruction_kept
returns-then-c-eq63 c = let t : white_space c.args.c ≡ false = sym c.is_white_space.ensures ∙ c.if-is_white_space.false in rw (t, c.if-c-eq63.true)

pub returns-else-c-eq63 : goal.returns-else-c-eq63
unfolding target_ended instruction_kept
returns-else-c-eq63 c = let t : white_space c.args.c ≡ false = sym c.is_white_space.ensures ∙ c.if-is_white_space.false in rw (t, ne_eqb c.args.c 63 c.if-c-eq63.false)
