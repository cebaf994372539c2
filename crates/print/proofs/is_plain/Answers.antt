-- Both tests as one.
use Rattle.base.proofs.Tests.{and_both}
use Rattle.print.proofs.is_plain.Goals as goal

pub returns : goal.returns
returns c = and_both _ _
