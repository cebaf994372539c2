-- `put_number` writes a number with no sign.
use Rattle.decimal.proofs.Puts.{signed_number}
use Rattle.decimal.proofs.put_number.Goals as goal

pub returns : goal.returns
returns c = rw (signed_number c.args.v) at c.put_signed.ensures
