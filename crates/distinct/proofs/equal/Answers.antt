-- `equal`: the language's test, said by `same`; runs of unlike length are not the same.
use Rattle.std.proofs.Common.{sym}
use Rattle.base.proofs.Equal.{equal}
use Rattle.distinct.proofs.Spelled.{unlike}
use Rattle.distinct.proofs.equal.Goals as goal

pub returns-then-a-b : goal.returns-then-a-b
returns-then-a-b c = sym (unlike _ _ c.if-a-b.true)

pub returns : goal.returns
returns c = equal _ _ c.eq.ensures
