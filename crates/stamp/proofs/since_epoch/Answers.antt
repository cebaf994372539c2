-- `since_epoch`: a difference in two's complement, by its sign.
use native.Mathlib.Omega.{arith}
use borrow.Author.Tests.{lt-ltb, le-ltb}
use Rattle.base.proofs.Split.{by_lt}
use Rattle.stamp.proofs.Counting.{epoch_is}
use Rattle.stamp.proofs.since_epoch.Goals as goal

pub returns : goal.returns
returns c =
    let total = c.args.total in
    rw epoch_is
    (by_lt total 62167219200
    (λ h. rw (lt-ltb total 62167219200 h) (omega arith))
    (λ h. rw (le-ltb total 62167219200 h) (omega arith)))
