-- `taken`: each test is the definition's.
use mathlib.Core.Path.{sym, ◌∙◌, ap}
use native.Mathlib.Omega.{arith}
use Rattle.calendar.specs.Calendar.{month_days}
use Rattle.base.proofs.Tests.{and_both}
use Rattle.stamp.proofs.Judging.{before_month, after_month, of_month}
use Rattle.stamp.proofs.taken.Goals as goal

pub returns-then-m-lt1 : goal.returns-then-m-lt1
returns-then-m-lt1 c = sym (before_month c.args.m c.if-m-lt1.true)

pub returns-then-m-gt12 : goal.returns-then-m-gt12
returns-then-m-gt12 c = sym (after_month c.args.m c.if-m-gt12.true)

pub returns : goal.returns
returns c =
    let m = c.args.m in
    simp and_both (sym (of_month m _ (omega arith) (omega arith) (c.month_length-last.ensures ∙ ap (λ l. month_days l m.month) c.is_leap.ensures)))
