-- `references::ampersand_step`: a first letter, the sign of a number, or neither.
use native.Mathlib.Omega.{arith}
use Rattle.base.specs.Bytes.{both, either, same}
use Rattle.text.specs.Check.{begins}
use Rattle.markup.specs.Automaton.{begins_entity, reference_step}
use Rattle.markup_tags.proofs.Entities.{none_first}
use Rattle.markup_tags.proofs.references.ampersand_step.Goals as goal

pub returns-in-35 : goal.returns-in-35
unfolding reference_step begins_entity begins same both either
returns-in-35 c = rw c.in-35.is

pub returns-in-97 : goal.returns-in-97
unfolding reference_step begins_entity begins same both either
returns-in-97 c = rw c.in-97.is

pub returns-in-103 : goal.returns-in-103
unfolding reference_step begins_entity begins same both either
returns-in-103 c = rw c.in-103.is

pub returns-in-108 : goal.returns-in-108
unfolding reference_step begins_entity begins same both either
returns-in-108 c = rw c.in-108.is

pub returns-in-113 : goal.returns-in-113
unfolding reference_step begins_entity begins same both either
returns-in-113 c = rw c.in-113.is

pub returns-in_default : goal.returns-in_default
returns-in_default c = none_first c.args.c (λ e. omega arith) (λ e. omega arith) (λ e. omega arith) (λ e. omega arith) (λ e. omega arith)
