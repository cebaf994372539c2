-- The number is that of the refusal.
use Rattle.refusal.specs.Refusal.{reply_of}
use Rattle.refusal.specs.declared.Reply.{Reply}
use mathlib.Core.Path.{ap}
use Rattle.compact.proofs.unsound_number.Goals as goal

pub returns : goal.returns
unfolding reply_of
returns c = ap (λ (r : Reply). r.number) c.from.ensures
