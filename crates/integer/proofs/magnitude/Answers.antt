-- `magnitude` holds the number of a text of at most 19 bytes to its bound; a longer text is read up to the bound.
use mathlib.Core.Path.{◌∙◌, ap}
use lib.Dec.{leb}
use Rattle.base.proofs.Split.{by_bool}
use Rattle.integer.specs.Bounded.{at_most}
use Rattle.integer.proofs.magnitude.Goals as goal

pub returns-in_err-n : goal.returns-in_err-n
unfolding at_most
returns-in_err-n c = c.from_residual.ensures ∙ ap (at_most c.args.most) c.in_err-n.ensures

pub returns-then-s-le19 : goal.returns-then-s-le19
unfolding at_most
returns-then-s-le19 c =
    rw (c.then_some.ensures, ← c.in_ok-n.ensures) (by_bool (leb c.in_ok-n.n c.args.most) (λ t. rw t) (λ t. rw t))
