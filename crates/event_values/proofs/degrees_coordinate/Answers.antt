-- `degrees_coordinate`: 23, 10, or the nearest 1e-7 degree.
use Rattle.event_values.proofs.Values.{degrees_got, degrees_not}
use Rattle.event_values.proofs.degrees_coordinate.Goals as goal

pub returns-in-Ok : goal.returns-in-Ok
returns-in-Ok c = degrees_got c.args.axis c.args.value.now c.in-Ok.ensures c.cast_unsigned.ensures

pub returns-in-Err-NotDegrees : goal.returns-in-Err-NotDegrees
returns-in-Err-NotDegrees c = degrees_not c.args.axis c.args.value.now (rw c.in-Err-NotDegrees.field-0-is at c.in-Err-NotDegrees.ensures)

pub returns-in-Err-OutOfRange : goal.returns-in-Err-OutOfRange
returns-in-Err-OutOfRange c = degrees_not c.args.axis c.args.value.now (rw c.in-Err-OutOfRange.field-0-is at c.in-Err-OutOfRange.ensures)
