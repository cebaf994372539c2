-- `references::behind_letter_a`: one of two letters, or none.
use native.Mathlib.Omega.{arith}
use Rattle.base.specs.Bytes.{both, either, same}
use Rattle.text.specs.Check.{begins}
use Rattle.markup.specs.Automaton.{begins_entity}
use Rattle.markup_tags.proofs.Entities.{none_behind_a}
use Rattle.markup_tags.proofs.references.behind_letter_a.Goals as goal

pub returns-in-109 : goal.returns-in-109
unfolding begins_entity begins same both either
returns-in-109 c = rw c.in-109.is

pub returns-in-112 : goal.returns-in-112
unfolding begins_entity begins same both either
returns-in-112 c = rw c.in-112.is

pub returns-in_default : goal.returns-in_default
returns-in_default c = none_behind_a c.args.c (λ e. omega arith) (λ e. omega arith)
