-- `markup_skipped::declarations::is_digit`: the test is the definition's.
use Rattle.base.specs.Bytes.{is_digit}
use Rattle.base.proofs.Tests.{and_both}
use Rattle.markup_skipped.proofs.declarations.is_digit.Goals as goal

pub returns : goal.returns
unfolding is_digit
returns c = and_both _ _
