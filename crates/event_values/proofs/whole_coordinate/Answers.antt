-- `whole_coordinate`: 8, 10, or the integer.
use mir.Syntax.{w32}
use mir.Val.{to_z}
use Rattle.event_values.proofs.Values.{handed_on, number_read, size_is, within, beyond}
use Rattle.event_values.proofs.whole_coordinate.Goals as goal

pub returns-in_err-bits : goal.returns-in_err-bits
returns-in_err-bits c =
    let e = number_read w32 _ c.integer_32.ensures c.in_err-bits.ensures.value in
    rw (handed_on c.from_residual.ensures, ← e)

pub returns-then-unsigned_abs-most_whole : goal.returns-then-unsigned_abs-most_whole
returns-then-unsigned_abs-most_whole c =
    let e = number_read w32 _ c.integer_32.ensures c.in_ok-bits.ensures.value in
    let b = c.in_ok-bits.bits in
    rw (← e) (beyond (to_z w32 b) (size_is b c.unsigned_abs.ensures.value c.cast_signed.type_inv c.cast_signed.ensures) (rw c.most_whole.ensures at c.if-unsigned_abs-most_whole.true))

pub returns : goal.returns
returns c =
    let e = number_read w32 _ c.integer_32.ensures c.in_ok-bits.ensures.value in
    let b = c.in_ok-bits.bits in
    rw (← e) (within (to_z w32 b) (size_is b c.unsigned_abs.ensures.value c.cast_signed.type_inv c.cast_signed.ensures) (rw c.most_whole.ensures at c.if-unsigned_abs-most_whole.false))
