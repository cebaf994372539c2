-- `in_end_tag`: what the step of the tag says, as a step of the markup.
use mathlib.Core.Path.{◌∙◌, ap}
use Rattle.markup.specs.Automaton.{wrapped_step, in_end_tag, end_tag_step, markup_step}
use Rattle.markup_tags.specs.EndTags.{end_tag_for}
use Rattle.markup_steps.proofs.Wrapped.{end_forgotten, end_grown}
use Rattle.markup_steps.proofs.in_end_tag.Goals as goal

pub returns-clause-moved : goal.returns-clause-moved
unfolding markup_step
returns-clause-moved c =
    c.of_end_tag.ensures
    ∙ (ap (wrapped_step in_end_tag) c.end_tag_step-taken.ensures.moved ∙ end_forgotten (end_tag_step (end_tag_for c.args.place) c.args.c))

pub returns-clause-output : goal.returns-clause-output
unfolding markup_step
returns-clause-output c = c.end_tag_step-taken.ensures.output ∙ end_grown (end_tag_for c.args.place) (end_tag_step (end_tag_for c.args.place) c.args.c)
