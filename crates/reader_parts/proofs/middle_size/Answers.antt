-- By the kind.
use Rattle.reader_parts.proofs.middle_size.Goals as goal

pub returns-in-Way : goal.returns-in-Way
returns-in-Way c =
    rw c.in-Way.is

pub returns-in-Relation : goal.returns-in-Relation
returns-in-Relation c =
    rw c.in-Relation.is
