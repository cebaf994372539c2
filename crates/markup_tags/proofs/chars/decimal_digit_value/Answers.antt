-- `chars::decimal_digit_value`: a digit, or a character below or above them.
use native.Mathlib.Omega.{arith}
use Rattle.text.proofs.Xml.{from_to_below, from_to_above}
use Rattle.markup_tags.proofs.Digits.{decimal_value, no_decimal}
use Rattle.markup_tags.proofs.chars.decimal_digit_value.Goals as goal

pub returns-in-48-to-57 : goal.returns-in-48-to-57
returns-in-48-to-57 c = decimal_value c.args.c (omega arith) (omega arith)

pub returns-in_default : goal.returns-in_default
returns-in_default c = no_decimal c.args.c (from_to_below 48 57 c.args.c (omega arith))

pub returns-in_default-2 : goal.returns-in_default-2
returns-in_default-2 c = no_decimal c.args.c (from_to_above 48 57 c.args.c (omega arith) (omega arith))
