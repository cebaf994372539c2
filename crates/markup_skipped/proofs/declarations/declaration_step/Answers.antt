-- `markup_skipped::declarations::declaration_step`: each place by its own function.
use Rattle.markup.specs.Automaton.{declaration_step}
use Rattle.markup_skipped.proofs.declarations.declaration_step.Goals as goal

pub returns-in-BehindKeyword : goal.returns-in-BehindKeyword
unfolding declaration_step
returns-in-BehindKeyword c = rw c.in-BehindKeyword.is c.keyword_ended.ensures
