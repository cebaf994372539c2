-- `markup_skipped::declarations::equals_sign_step`: white space, a quote mark, or no declaration.
use mathlib.Core.Path.{◌≡◌, sym, ◌∙◌}
use mathlib.Core.Bool.{true, false}
use borrow.Author.Tests.{ne_eqb}
use Rattle.markup.specs.Names.{white_space}
use Rattle.markup.specs.Automaton.{declaration_step}
use Rattle.markup_skipped.specs.Declarations.{declaration_kept}
use Rattle.markup_skipped.proofs.Values.{nothing_kept}
use Rattle.markup_skipped.proofs.declarations.equals_sign_step.Goals as goal

pub returns-then-is_white_space : goal.returns-then-is_white_space
unfolding declaration_step declaration_kept
returns-then-is_white_space c = let t : white_space c.args.c ≡ true = sym c.is_white_space.ensures ∙ c.if-is_white_space.true in rw t

pub returns-then-c-eq34 : goal.returns-then-c-eq34
unfolding declaration_step declaration_kept
returns-then-c-eq34 c =
    let t : white_space c.args.c ≡ false = sym c.is_white_space.ensures ∙ c.if-is_white_space.false in
    rw (t, c.if-c-eq34.true, nothing_kept) (cc)

pub returns-then-c-eq39 : goal.returns-then-c-eq39
unfolding declaration_step declaration_kept
returns-then-c-eq39 c =
    let t : white_space c.args.c ≡ false = sym c.is_white_space.ensures ∙ c.if-is_white_space.false in
    rw (t, c.if-c-eq39.true, nothing_kept) (cc)

pub returns-else-c-eq39 : goal.returns-else-c-eq39
unfolding declaration_step declaration_kept
returns-else-c-eq39 c =
    let t : white_space c.args.c ≡ false = sym c.is_white_space.ensures ∙ c.if-is_white_space.false in
    rw (t, ne_eqb c.args.c 34 c.if-c-eq34.false, ne_eqb c.args.c 39 c.if-c-eq39.false)
