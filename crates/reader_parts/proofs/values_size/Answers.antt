-- The sum fits: the counts have 32 bits.
use native.Mathlib.Omega.{arith}
use Rattle.reader_parts.proofs.Adds.{middle_most}
use Rattle.reader_parts.proofs.values_size.Goals as goal

pub overflow_add-before : goal.overflow_add-before
overflow_add-before c =
    omega (arith, middle_most c.args.kind c.args.head.count, c.middle_size.ensures)
