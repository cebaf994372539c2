-- `markup_skipped::declarations::upper_case`: the test is the definition's.
use mathlib.Core.Path.{◌≡◌, sym, ◌∙◌}
use mathlib.Core.Bool.{true, false}
use lib.Dec.{leb}
use Rattle.base.specs.Bytes.{both}
use Rattle.base.proofs.Tests.{and_both}
use Rattle.text.specs.Char.{from_to}
use Rattle.markup_skipped.proofs.declarations.upper_case.Goals as goal

pub returns-then-c : goal.returns-then-c
unfolding from_to
returns-then-c c = let t : both (leb 97 c.args.c) (leb c.args.c 122) ≡ true = sym (and_both _ _) ∙ c.if-c.true in rw t

pub returns-else-c : goal.returns-else-c
unfolding from_to
returns-else-c c = let t : both (leb 97 c.args.c) (leb c.args.c 122) ≡ false = sym (and_both _ _) ∙ c.if-c.false in rw t
