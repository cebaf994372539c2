-- `markup_skipped::declarations::keyword_ended`: white space, the equals sign, or no declaration.
use mathlib.Core.Path.{◌≡◌, sym, ◌∙◌}
use mathlib.Core.Bool.{true, false}
use borrow.Author.Tests.{ne_eqb}
use Rattle.markup.specs.Names.{white_space}
use Rattle.markup.specs.Automaton.{keyword_ended}
use Rattle.markup_skipped.specs.Declarations.{declaration_kept}
use Rattle.markup_skipped.proofs.declarations.keyword_ended.Goals as goal

pub returns-then-is_white_space : goal.returns-then-is_white_space
unfolding keyword_ended declaration_kept
returns-then-is_white_space c = let t : white_space c.args.c ≡ true = sym c.is_white_space.ensures ∙ c.if-is_white_space.true in rw t

pub returns-then-c-eq61 : goal.returns-then-c-eq61
unfolding keyword_ended declaration_kept
returns-then-c-eq61 c = let t : white_space c.args.c ≡ false = sym c.is_white_space.ensures ∙ c.if-is_white_space.false in rw (t, c.if-c-eq61.true)

pub returns-else-c-eq61 : goal.returns-else-c-eq61
unfolding keyword_ended declaration_kept
returns-else-c-eq61 c = let t : white_space c.args.c ≡ false = sym c.is_white_space.ensures ∙ c.if-is_white_space.false in rw (t, ne_eqb c.args.c 61 c.if-c-eq61.false)
