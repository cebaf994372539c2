-- `in_bang`: what the step of the comment says, as a step of the markup.
use mathlib.Core.Path.{◌∙◌}
use Rattle.markup.specs.Automaton.{comment_step, markup_step}
use Rattle.markup_tags.specs.Output.{written_by}
use Rattle.markup_skipped.specs.Comments.{comment_for}
use Rattle.markup_steps.proofs.Wrapped.{comment_is, comment_grown}
use Rattle.markup_steps.proofs.in_bang.Goals as goal

pub returns-clause-moved : goal.returns-clause-moved
unfolding markup_step
returns-clause-moved c = c.of_comment.ensures ∙ comment_is c.comment_step.result (comment_step (comment_for c.args.place) c.args.c) c.comment_step.ensures

pub returns-clause-output : goal.returns-clause-output
unfolding markup_step written_by
returns-clause-output c = comment_grown (comment_for c.args.place) (comment_step (comment_for c.args.place) c.args.c)
