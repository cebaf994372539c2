-- `accepted`: a moment that is taken has its seconds; any other text is refused.
use Rattle.std.specs.Prelude.{Some}
use mathlib.Core.Path.{sym, ◌∙◌, ap}
use Rattle.stamp.proofs.Answering.{no_moment, not_taken, taken_at}
use Rattle.stamp.proofs.accepted.Goals as goal

pub returns-in_err-m : goal.returns-in_err-m
returns-in_err-m c = rw c.from_residual.ensures (sym (no_moment _ (sym c.in_err-m.ensures)))

pub seconds-requires : goal.seconds-requires
seconds-requires c = sym c.taken.ensures ∙ c.if-taken.true

pub returns-then-taken : goal.returns-then-taken
returns-then-taken c = ap Some c.seconds.ensures ∙ sym (taken_at _ _ (sym c.in_ok-m.ensures) (sym c.taken.ensures ∙ c.if-taken.true))

pub returns : goal.returns
returns c = sym (not_taken _ _ (sym c.in_ok-m.ensures) (sym c.taken.ensures ∙ c.if-taken.false))
