-- `refusal_of`: no other number stops.
use native.Mathlib.Omega.{arith}
use Rattle.c_reader.proofs.Codes.{refusal_none}
use Rattle.c_reader.proofs.refusal_of.Goals as goal

pub returns-in_default : goal.returns-in_default
returns-in_default c = rw (refusal_none c.args.number c.args.held (λ h. omega arith) (λ h. omega arith))
