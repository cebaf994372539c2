-- `markup_skipped::instructions::second_letter`: the letter of `xml` in either case, or another.
use Rattle.markup_skipped.proofs.Targets.{second_upper, second_small, second_other}
use mathlib.Core.Bool.{true, false}
use Rattle.markup_skipped.proofs.instructions.second_letter.Goals as goal

pub returns-then-c-eq77 : goal.returns-then-c-eq77
returns-then-c-eq77 c = rw c.if-c-eq77.true (second_upper c.args.upper)

pub returns-then-c-ne109 : goal.returns-then-c-ne109
returns-then-c-ne109 c = second_other c.args.upper c.args.c c.if-c-eq77.false c.if-c-ne109.true

pub returns-then-upper : goal.returns-then-upper
returns-then-upper c = rw (c.if-c-ne109.false, c.if-upper.true) (second_small true)

pub returns-else-upper : goal.returns-else-upper
returns-else-upper c = rw (c.if-c-ne109.false, c.if-upper.false) (second_small false)
