-- Where regression is refused the answer is that of `admit`, else the claim is admitted.
use Rattle.kind_store.specs.KindStore.{checked}
use Rattle.kind_store.proofs.VersionRegression.check.Goals as goal

pub returns-in-Refused : goal.returns-in-Refused
unfolding checked
returns-in-Refused c = rw (c.in-Refused.is, ← c.new.ensures) c.admit.ensures

pub returns-in-Allowed : goal.returns-in-Allowed
unfolding checked
returns-in-Allowed c = rw c.in-Allowed.is
