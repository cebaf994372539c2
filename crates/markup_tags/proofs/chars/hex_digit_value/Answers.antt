-- `chars::hex_digit_value`: a digit of one of three ranges, or a character in one of the four gaps.
use native.Mathlib.Omega.{arith}
use Rattle.text.proofs.Xml.{from_to_below, from_to_above}
use Rattle.markup_tags.proofs.Digits.{hex_value, hex_upper, hex_lower, no_hex}
use Rattle.markup_tags.proofs.chars.hex_digit_value.Goals as goal

pub returns-in-48-to-57 : goal.returns-in-48-to-57
returns-in-48-to-57 c = hex_value c.args.c (omega arith) (omega arith)

pub returns-in-65-to-70 : goal.returns-in-65-to-70
returns-in-65-to-70 c = hex_upper c.args.c (omega arith) (omega arith)

pub returns-in-97-to-102 : goal.returns-in-97-to-102
returns-in-97-to-102 c = hex_lower c.args.c (omega arith) (omega arith)

pub returns-in_default : goal.returns-in_default
returns-in_default c =
    let digit = from_to_below 48 57 c.args.c (omega arith) in
    let upper = from_to_below 65 70 c.args.c (omega arith) in
    let lower = from_to_below 97 102 c.args.c (omega arith) in
    no_hex c.args.c digit upper lower

pub returns-in_default-2 : goal.returns-in_default-2
returns-in_default-2 c =
    let digit = from_to_above 48 57 c.args.c (omega arith) (omega arith) in
    let upper = from_to_below 65 70 c.args.c (omega arith) in
    let lower = from_to_below 97 102 c.args.c (omega arith) in
    no_hex c.args.c digit upper lower

pub returns-in_default-3 : goal.returns-in_default-3
returns-in_default-3 c =
    let digit = from_to_above 48 57 c.args.c (omega arith) (omega arith) in
    let upper = from_to_above 65 70 c.args.c (omega arith) (omega arith) in
    let lower = from_to_below 97 102 c.args.c (omega arith) in
    no_hex c.args.c digit upper lower

pub returns-in_default-4 : goal.returns-in_default-4
returns-in_default-4 c =
    let digit = from_to_above 48 57 c.args.c (omega arith) (omega arith) in
    let upper = from_to_above 65 70 c.args.c (omega arith) (omega arith) in
    let lower = from_to_above 97 102 c.args.c (omega arith) (omega arith) in
    no_hex c.args.c digit upper lower
