-- `markup_skipped::declarations::between_step`: white space, the end, or a keyword behind white space.
use mathlib.Core.Path.{◌≡◌, sym, ◌∙◌}
use mathlib.Core.Bool.{true, false}
use lib.Dec.{eqb}
use Rattle.markup.specs.Names.{white_space}
use Rattle.markup.specs.Automaton.{declaration_step}
use Rattle.markup_skipped.specs.Declarations.{declaration_kept}
use Rattle.markup_skipped.proofs.Tests.{tested}
use Rattle.markup_skipped.proofs.declarations.between_step.Goals as goal

pub returns-then-is_white_space : goal.returns-then-is_white_space
unfolding declaration_step declaration_kept
returns-then-is_white_space c = let t : white_space c.args.c ≡ true = sym c.is_white_space.ensures ∙ c.if-is_white_space.true in rw t

pub returns-then-version_read-c : goal.returns-then-version_read-c
unfolding declaration_step declaration_kept
returns-then-version_read-c c =
    let t : white_space c.args.c ≡ false = sym c.is_white_space.ensures ∙ c.if-is_white_space.false in
    let ends = tested _ _ (eqb c.args.c 63) _ c.version_read.ensures c.if-version_read-c.true in
    rw (t, ends)

pub returns-then-spaced : goal.returns-then-spaced
unfolding declaration_step declaration_kept
returns-then-spaced c =
    let t : white_space c.args.c ≡ false = sym c.is_white_space.ensures ∙ c.if-is_white_space.false in
    let ends = tested _ _ (eqb c.args.c 63) _ c.version_read.ensures c.if-version_read-c.false in
    rw (t, ends, c.if-spaced.true) c.keyword_begun.ensures

pub returns-else-spaced : goal.returns-else-spaced
unfolding declaration_step declaration_kept
returns-else-spaced c =
    let t : white_space c.args.c ≡ false = sym c.is_white_space.ensures ∙ c.if-is_white_space.false in
    let ends = tested _ _ (eqb c.args.c 63) _ c.version_read.ensures c.if-version_read-c.false in
    rw (t, ends, c.if-spaced.false)
