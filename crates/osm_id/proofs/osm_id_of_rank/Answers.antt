-- `osm_id::osm_id_of_rank` meets its contract.
use mathlib.Core.Path.{◌∙◌}
use native.Mathlib.Omega.{arith}
use Rattle.osm_id.specs.Order.{id_of}
use Rattle.osm_id.proofs.Steps.{negative_bits, positive_bits, result_is}
use Rattle.osm_id.proofs.osm_id_of_rank.Goals as goal

pub returns-in-0 : goal.returns-in-0
unfolding id_of
returns-in-0 c = rw c.in-0.is

pub returns-in-1-to-9223372036854775808 : goal.returns-in-1-to-9223372036854775808
returns-in-1-to-9223372036854775808 c = result_is c.ranges.r (c.cast_signed.ensures ∙ negative_bits (λ e. omega arith) (omega arith))

pub returns-in_default : goal.returns-in_default
returns-in_default c = let f = c.ranges.r in result_is f (c.cast_signed-in_default.ensures ∙ positive_bits f (omega arith))
