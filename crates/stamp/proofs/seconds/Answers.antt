-- `seconds`: the seconds from year 0, and so those from the epoch.
use mathlib.Core.Path.{◌∙◌}
use Rattle.stamp.specs.Stamp.{seconds_of}
use Rattle.stamp.proofs.seconds.Goals as goal

pub returns : goal.returns
unfolding seconds_of
returns c = c.since_epoch.ensures ∙ rw c.days.ensures
