-- `is_leap`: each answer is the definition, at what the tests said.
use borrow.Author.Tests.{eq-eqb, ne_eqb}
use Rattle.base.specs.Bytes.{both, either}
use Rattle.calendar.specs.Calendar.{leap}
use Rattle.calendar.proofs.is_leap.Goals as goal

pub returns-then-year-ne0 : goal.returns-then-year-ne0
unfolding leap both either
returns-then-year-ne0 c = rw (eq-eqb _ 0 c.if-year-eq0.true, ne_eqb _ 0 c.if-year-ne0.true)

pub returns-else-year-ne0 : goal.returns-else-year-ne0
unfolding leap both either
returns-else-year-ne0 c = rw (eq-eqb _ 0 c.if-year-eq0.true, eq-eqb _ 0 c.if-year-ne0.false)

pub returns-else-year-eq0 : goal.returns-else-year-eq0
unfolding leap both either
returns-else-year-eq0 c = rw (ne_eqb _ 0 c.if-year-eq0.false)
