-- `find` searches from handle 0 on.
use native.Mathlib.Nat.{sub-zero}
use Rattle.interner.specs.Strings.{find_in}
use Rattle.interner.proofs.Strings.find.Goals as goal

pub returns : goal.returns
unfolding find_in
returns c = rw (sub-zero, c.texts.ensures.spans, c.texts.ensures.bytes) at c.find_from.ensures
