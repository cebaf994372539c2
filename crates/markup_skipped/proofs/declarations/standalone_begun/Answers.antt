-- `markup_skipped::declarations::standalone_begun`: a `y`, an `n`, or no value.
use mathlib.Core.Path.{◌≡◌, sym, ◌∙◌}
use mathlib.Core.Bool.{false}
use lib.Dec.{eqb}
use borrow.Author.Tests.{ne_eqb}
use Rattle.base.specs.Bytes.{both, either, same}
use Rattle.text.specs.Check.{begins}
use Rattle.markup.specs.Automaton.{begins_key_value}
use Rattle.markup_skipped.specs.Declarations.{value_kept, declaration_kept}
use Rattle.markup_skipped.proofs.Values.{standalone0}
use Rattle.markup_skipped.proofs.declarations.standalone_begun.Goals as goal

pub returns-then-c-eq121 : goal.returns-then-c-eq121
unfolding begins_key_value begins same value_kept declaration_kept both either
returns-then-c-eq121 c = rw c.if-c-eq121.true

pub returns-else-c-eq121 : goal.returns-else-c-eq121
returns-else-c-eq121 c = let n : eqb c.args.c 121 ≡ false = ne_eqb c.args.c 121 c.if-c-eq121.false in c.taken_if.ensures ∙ sym (standalone0 _ c.args.c n)
