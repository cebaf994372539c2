-- A text of a line is no longer than a line may be.
use Rattle.reader_acts.proofs.Bits.{user_short}
use Rattle.reader_step.proofs.Steps.{value_short}
use Rattle.reader_step.proofs.deed_of.Goals as goal

pub returns-in-Begins-clause-short : goal.returns-in-Begins-clause-short
returns-in-Begins-clause-short c = user_short _

pub returns-in-Deletes-clause-short : goal.returns-in-Deletes-clause-short
returns-in-Deletes-clause-short c = user_short _

pub returns-in-Tags-clause-short : goal.returns-in-Tags-clause-short
returns-in-Tags-clause-short c = (value_short c.in-Tags.tag.key, value_short c.in-Tags.tag.value)

pub returns-in-Joins-clause-short : goal.returns-in-Joins-clause-short
returns-in-Joins-clause-short c = value_short c.in-Joins.member.role
