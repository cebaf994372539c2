-- `markup_skipped::instructions::third_letter`: the letter of `xml` in either case, or another.
use Rattle.markup_skipped.proofs.Targets.{third_upper, third_small, third_other}
use mathlib.Core.Bool.{true, false}
use Rattle.markup_skipped.proofs.instructions.third_letter.Goals as goal

pub returns-then-c-eq76 : goal.returns-then-c-eq76
returns-then-c-eq76 c = rw c.if-c-eq76.true (third_upper c.args.upper)

pub returns-then-c-ne108 : goal.returns-then-c-ne108
returns-then-c-ne108 c = third_other c.args.upper c.args.c c.if-c-eq76.false c.if-c-ne108.true

pub returns-then-upper : goal.returns-then-upper
returns-then-upper c = rw (c.if-c-ne108.false, c.if-upper.true) (third_small true)

pub returns-else-upper : goal.returns-else-upper
returns-else-upper c = rw (c.if-c-ne108.false, c.if-upper.false) (third_small false)
