-- `end_tags::end_tag_step`: place by place.
use Rattle.markup_tags.proofs.end_tags.end_tag_step.Goals as goal

pub returns-in-Slash-clause-moved : goal.returns-in-Slash-clause-moved
returns-in-Slash-clause-moved c = rw c.in-Slash.is c.slash_step.ensures.moved

pub returns-in-Slash-clause-output : goal.returns-in-Slash-clause-output
returns-in-Slash-clause-output c = rw c.in-Slash.is c.slash_step.ensures.output

pub returns-in-Name-clause-moved : goal.returns-in-Name-clause-moved
returns-in-Name-clause-moved c = rw c.in-Name.is c.name_step.ensures.moved

pub returns-in-Name-clause-output : goal.returns-in-Name-clause-output
returns-in-Name-clause-output c = rw c.in-Name.is c.name_step.ensures.output

pub returns-in-Behind-clause-moved : goal.returns-in-Behind-clause-moved
returns-in-Behind-clause-moved c = rw c.in-Behind.is c.name_ended.ensures.moved

pub returns-in-Behind-clause-output : goal.returns-in-Behind-clause-output
returns-in-Behind-clause-output c = rw c.in-Behind.is c.name_ended.ensures.output
