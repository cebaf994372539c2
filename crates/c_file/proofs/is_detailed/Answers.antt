-- Each word against the largest that its number has.
use lib.Dec.{leb}
use lib.ListN.{get_or}
use borrow.Author.Tests.{le-leb, lt-leb}
use Rattle.base.specs.Bytes.{both}
use Rattle.base.proofs.Tests.{and_both}
use Rattle.c_file.specs.Words.{first_most, second_most, detailed}
use Rattle.c_file.proofs.is_detailed.Goals as goal

pub returns-then-number-le33 : goal.returns-then-number-le33
unfolding detailed both
returns-then-number-le33 c =
    let k = c.args in
    rw (le-leb k.number 33 c.if-number-le33.true) (and_both (leb k.first (get_or first_most k.number 0)) (leb k.second (get_or second_most k.number 0)))

pub returns-else-number-le33 : goal.returns-else-number-le33
unfolding detailed both
returns-else-number-le33 c = rw (lt-leb c.args.number 33 c.if-number-le33.false)
