-- The head's length and the metadata's.
use native.Mathlib.Omega.{arith}
use Rattle.compact.proofs.Lengths.{head_len_small}
use Rattle.compact.proofs.RecordHead.parts_at.Goals as goal

pub overflow_add-result : goal.overflow_add-result
overflow_add-result g c = omega (arith, g.met.Self.RecordHead.is_long, head_len_small g.Self.RecordHead.kind)

pub returns : goal.returns
returns g c = omega (arith, g.met.Self.RecordHead.is_long)
