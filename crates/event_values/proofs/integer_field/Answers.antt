-- `integer_field`: 7, 8, or the integer.
use mir.Syntax.{w64}
use Rattle.event_values.proofs.Values.{handed_on, number_text, integer_missing, integer_read}
use Rattle.event_values.proofs.integer_field.Goals as goal

pub returns-in_err-value : goal.returns-in_err-value
returns-in_err-value g c = rw (handed_on c.from_residual.ensures) (integer_missing c.args.name.now _ w64 c.in_err-value.ensures.means)

pub returns : goal.returns
returns g c = integer_read c.args.name.now _ w64 _ c.in_ok-value.ensures.means (number_text w64 _ c.read.ensures) c.ok_or.ensures.value
