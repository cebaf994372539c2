-- No more parts are pushed than there are.
use mathlib.Core.Path.{◌≡◌}
use native.Mathlib.Omega.{arith}
use lib.ListN.{length}
use Rattle.interner.proofs.Takes.{take_min}
use Rattle.reader_acts.proofs.push_staged.Goals as goal

pub returns-clause-pushed : goal.returns-clause-pushed
returns-clause-pushed c =
    let long : length c.args.parts.now ≡ 44432 = omega arith in
    rw (c.min-used.ensures, ← long, take_min) at c.push.ensures.done
