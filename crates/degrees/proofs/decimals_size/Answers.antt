-- `decimals_size`: the digits are at most twelve, and less than one degree.
use mathlib.Core.Path.{sym}
use native.Mathlib.Omega.{arith}
use Rattle.degrees.proofs.Sizes.{digits_fit, decimals_fit}
use Rattle.degrees.proofs.decimals_size.Goals as goal

pub overflow_cast-text : goal.overflow_cast-text
overflow_cast-text c = let f = digits_fit 12 c.args.text.now (sym c.in_ok-number.ensures) in record { fits = omega (arith, f.0) }

pub overflow_sub-text : goal.overflow_sub-text
overflow_sub-text c = (digits_fit 12 c.args.text.now (sym c.in_ok-number.ensures)).0

pub overflow_mul-result : goal.overflow_mul-result
overflow_mul-result c =
    let f = decimals_fit c.args.text.now (sym c.in_ok-number.ensures) in
    record { fits = rw c.pow.ensures (omega (arith, f)) }
