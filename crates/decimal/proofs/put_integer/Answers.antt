-- `put_integer` writes an integer by its sign and its size.
use mir.Syntax.{w64}
use mir.Val.{to_z}
use Rattle.decimal.proofs.Puts.{signed_integer}
use Rattle.decimal.proofs.put_integer.Goals as goal

pub returns : goal.returns
returns c =
    let e = c.sign_and_size-minus.ensures in
    rw (e.negative, e.size, signed_integer (to_z w64 c.args.bits)) at c.put_signed.ensures
