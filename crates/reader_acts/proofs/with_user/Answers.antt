-- The flag of the user is not that of the version.
use mathlib.Core.Path.{refl}
use mathlib.Core.Bool.{true, false}
use Rattle.model.specs.Record.{claim_of}
use Rattle.compact.specs.Held.{meta_of}
use Rattle.reader_acts.proofs.Bits.{version_flag}
use Rattle.reader_acts.proofs.with_user.Goals as goal
use Rattle.reader_acts.proofs.with_user.Goals.{then-is_some, else-is_some}

pub returns-clause-claim : goal.returns-clause-claim
unfolding claim_of meta_of
returns-clause-claim c =
    elim c.if-is_some.branch [ then-is_some w ↦ rw (w.user_flag-is, version_flag c.args.meta.flags true) refl | else-is_some w ↦ rw (w.user_flag-is, version_flag c.args.meta.flags false) refl ]
