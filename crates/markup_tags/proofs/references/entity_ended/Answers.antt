-- `references::entity_ended`: the five names, and others.
use Rattle.base.specs.Bytes.{both, same}
use Rattle.markup.specs.Automaton.{entity_of}
use Rattle.markup_tags.proofs.Entities.{no_entity}
use Rattle.markup_tags.proofs.references.entity_ended.Goals as goal

pub returns-in-Amp : goal.returns-in-Amp
unfolding entity_of same both
returns-in-Amp c = rw c.in-Amp.is

pub returns-in-Apos : goal.returns-in-Apos
unfolding entity_of same both
returns-in-Apos c = rw c.in-Apos.is

pub returns-in-Gt : goal.returns-in-Gt
unfolding entity_of same both
returns-in-Gt c = rw c.in-Gt.is

pub returns-in-Lt : goal.returns-in-Lt
unfolding entity_of same both
returns-in-Lt c = rw c.in-Lt.is

pub returns-in-Quot : goal.returns-in-Quot
unfolding entity_of same both
returns-in-Quot c = rw c.in-Quot.is

pub returns-in_default : goal.returns-in_default
returns-in_default c = no_entity c.args.letters c.in_default.not-Amp c.in_default.not-Apos c.in_default.not-Gt c.in_default.not-Lt c.in_default.not-Quot
