-- `in_start_tag`: what the step of the tag says, as a step of the markup.
use mathlib.Core.Path.{◌∙◌, ap}
use Rattle.markup.specs.Automaton.{wrapped_step, in_start_tag, start_tag_step, markup_step}
use Rattle.markup_tags.specs.StartTags.{start_tag_for}
use Rattle.markup_steps.proofs.Wrapped.{start_forgotten, start_grown}
use Rattle.markup_steps.proofs.in_start_tag.Goals as goal

pub returns-clause-moved : goal.returns-clause-moved
unfolding markup_step
returns-clause-moved c =
    c.of_start_tag.ensures
    ∙ (ap (wrapped_step in_start_tag) c.start_tag_step-taken.ensures.moved ∙ start_forgotten (start_tag_step (start_tag_for c.args.place) c.args.c))

pub returns-clause-output : goal.returns-clause-output
unfolding markup_step
returns-clause-output c = c.start_tag_step-taken.ensures.output ∙ start_grown (start_tag_for c.args.place) (start_tag_step (start_tag_for c.args.place) c.args.c)
