-- `digits_to`: a text that is too long is none, and a short one writes a number that 64 bits hold.
use Rattle.std.proofs.Common.{rules, sym, ◌∙◌}
use Rattle.degrees.proofs.Sizes.{digits_long, read_short}
use Rattle.degrees.proofs.digits_to.Goals as goal

pub returns-then-most-text : goal.returns-then-most-text
returns-then-most-text c = sym (digits_long c.args.most c.args.text.now (search rules))

pub returns : goal.returns
returns c = c.read_digits.ensures ∙ read_short c.args.most c.args.text.now (search rules) (search rules)
