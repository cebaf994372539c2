-- `integer_length` goes by the sign; the minus sign is a byte of its own.
use Prim.Native.Nat.{◌+◌, ◌-◌}
use mathlib.Core.Path.{ap}
use native.Mathlib.Omega.{arith}
use lib.ListN.{length}
use mir.Syntax.{w64}
use Rattle.decimal.proofs.Puts.{not_negative, negative}
use borrow.Author.Rules.{rules}
use Rattle.print.proofs.Pieces.{digits_fit}
use Rattle.print.proofs.integer_length.Goals as goal

pub returns-then-bits-lt9223372036854775808 : goal.returns-then-bits-lt9223372036854775808
returns-then-bits-lt9223372036854775808 c = rw (not_negative w64 c.args.bits (search rules)) c.number_length.ensures

pub overflow_add-result : goal.overflow_add-result
overflow_add-result c = search (rules, c.number_length-2.ensures, digits_fit 19 (18446744073709551615 - c.args.bits + 1) (omega arith))

pub returns : goal.returns
returns c = omega (arith, c.number_length-2.ensures, ap length (negative w64 c.args.bits (search rules) (search rules)))
