-- `number_length` counts the powers of ten up to a number.
use mathlib.Core.Path.{sym}
use native.Mathlib.Omega.{arith}
use Rattle.decimal.proofs.Numbers.{length_one, length_power}
use Rattle.decimal.proofs.number_length.Goals as goal

pub returns-in-Some : goal.returns-in-Some
returns-in-Some c = let e = c.in-Some.ensures in sym (length_power c.in-Some.power c.args.v e.power_le e.next_power_gt)

pub returns-in-None : goal.returns-in-None
returns-in-None c = let e = c.in-None.ensures in sym (length_one c.args.v (omega (arith, e.none)))
