-- `start_tags::start_tag_step`: place by place.
use mathlib.Core.Path.{◌∙◌}
use Rattle.markup.specs.Automaton.{start_tag_step}
use Rattle.markup_tags.specs.Output.{written_by}
use Rattle.markup_tags.proofs.Steps.{name_ended_before}
use Rattle.markup_tags.proofs.start_tags.start_tag_step.Goals as goal

pub returns-in-Name-clause-moved : goal.returns-in-Name-clause-moved
returns-in-Name-clause-moved c = rw c.in-Name.is c.name_step.ensures.moved

pub returns-in-Name-clause-output : goal.returns-in-Name-clause-output
returns-in-Name-clause-output c = rw c.in-Name.is c.name_step.ensures.output

pub returns-in-Behind-clause-moved : goal.returns-in-Behind-clause-moved
returns-in-Behind-clause-moved c = rw c.in-Behind.is c.part_ended.ensures.moved

pub returns-in-Behind-clause-output : goal.returns-in-Behind-clause-output
returns-in-Behind-clause-output c = rw c.in-Behind.is c.part_ended.ensures.output

pub returns-in-AttributeName-clause-moved : goal.returns-in-AttributeName-clause-moved
returns-in-AttributeName-clause-moved c = rw c.in-AttributeName.is c.attribute_name_step.ensures.moved

pub returns-in-AttributeName-clause-output : goal.returns-in-AttributeName-clause-output
returns-in-AttributeName-clause-output c = rw c.in-AttributeName.is c.attribute_name_step.ensures.output

pub returns-in-BehindAttributeName-clause-moved : goal.returns-in-BehindAttributeName-clause-moved
unfolding start_tag_step
returns-in-BehindAttributeName-clause-moved c = rw c.in-BehindAttributeName.is c.attribute_name_ended.ensures.moved

pub returns-in-BehindAttributeName-clause-output : goal.returns-in-BehindAttributeName-clause-output
unfolding start_tag_step written_by
returns-in-BehindAttributeName-clause-output c = rw c.in-BehindAttributeName.is (c.attribute_name_ended.ensures.output ∙ name_ended_before c.args.c)

pub returns-in-BehindEqualsSign-clause-moved : goal.returns-in-BehindEqualsSign-clause-moved
returns-in-BehindEqualsSign-clause-moved c = rw c.in-BehindEqualsSign.is c.equals_sign_step.ensures.moved

pub returns-in-BehindEqualsSign-clause-output : goal.returns-in-BehindEqualsSign-clause-output
returns-in-BehindEqualsSign-clause-output c = rw c.in-BehindEqualsSign.is c.equals_sign_step.ensures.output

pub returns-in-Value-clause-moved : goal.returns-in-Value-clause-moved
returns-in-Value-clause-moved c = rw c.in-Value.is c.value_step.ensures.moved

pub returns-in-Value-clause-output : goal.returns-in-Value-clause-output
returns-in-Value-clause-output c = rw c.in-Value.is c.value_step.ensures.output

pub returns-in-Reference-clause-moved : goal.returns-in-Reference-clause-moved
returns-in-Reference-clause-moved c = rw c.in-Reference.is c.value_reference_step.ensures.moved

pub returns-in-Reference-clause-output : goal.returns-in-Reference-clause-output
returns-in-Reference-clause-output c = rw c.in-Reference.is c.value_reference_step.ensures.output

pub returns-in-Slash-clause-moved : goal.returns-in-Slash-clause-moved
returns-in-Slash-clause-moved c = rw c.in-Slash.is c.slash_step.ensures.moved

pub returns-in-Slash-clause-output : goal.returns-in-Slash-clause-output
returns-in-Slash-clause-output c = rw c.in-Slash.is c.slash_step.ensures.output
