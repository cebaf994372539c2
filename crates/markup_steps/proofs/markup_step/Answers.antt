-- `markup_step`: place by place.
use Rattle.markup.specs.Automaton.{markup_step}
use Rattle.markup_steps.proofs.markup_step.Goals as goal

pub returns-in-Begun-clause-moved : goal.returns-in-Begun-clause-moved
unfolding markup_step
returns-in-Begun-clause-moved c = rw c.in-Begun.is c.begun_step.ensures.moved

pub returns-in-Begun-clause-output : goal.returns-in-Begun-clause-output
unfolding markup_step
returns-in-Begun-clause-output c = rw c.in-Begun.is c.begun_step.ensures.output

pub returns-in-StartTag-clause-moved : goal.returns-in-StartTag-clause-moved
returns-in-StartTag-clause-moved c = rw c.in-StartTag.is c.in_start_tag.ensures.moved

pub returns-in-StartTag-clause-output : goal.returns-in-StartTag-clause-output
returns-in-StartTag-clause-output c = rw c.in-StartTag.is c.in_start_tag.ensures.output

pub returns-in-EndTag-clause-moved : goal.returns-in-EndTag-clause-moved
returns-in-EndTag-clause-moved c = rw c.in-EndTag.is c.in_end_tag.ensures.moved

pub returns-in-EndTag-clause-output : goal.returns-in-EndTag-clause-output
returns-in-EndTag-clause-output c = rw c.in-EndTag.is c.in_end_tag.ensures.output

pub returns-in-Bang-clause-moved : goal.returns-in-Bang-clause-moved
returns-in-Bang-clause-moved c = rw c.in-Bang.is c.in_bang.ensures.moved

pub returns-in-Bang-clause-output : goal.returns-in-Bang-clause-output
returns-in-Bang-clause-output c = rw c.in-Bang.is c.in_bang.ensures.output

pub returns-in-Instruction-clause-moved : goal.returns-in-Instruction-clause-moved
returns-in-Instruction-clause-moved c = rw c.in-Instruction.is c.in_instruction.ensures.moved

pub returns-in-Instruction-clause-output : goal.returns-in-Instruction-clause-output
returns-in-Instruction-clause-output c = rw c.in-Instruction.is c.in_instruction.ensures.output
