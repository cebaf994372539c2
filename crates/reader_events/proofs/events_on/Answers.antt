-- 22 or the stop mark, or all lines.
use mathlib.Core.Path.{sym, ◌∙◌, ap, subst}
use mathlib.Core.Bool.{Bool}
use Rattle.reader.specs.Lent.{state_held}
use Rattle.reader.specs.Given.{StateGiven}
use Rattle.reader.specs.State.{state_sound}
use Rattle.reader_sound.specs.Mark.{going_answer}
use Rattle.reader_sound.proofs.Mark.{going_on}
use Rattle.reader_events.proofs.Runs.{came_refused, came_going, sound_given, accepted}
use Rattle.reader_events.proofs.events_on.Goals as goal

pub returns-then-is_err-clause-answer_value : goal.returns-then-is_err-clause-answer_value
returns-then-is_err-clause-answer_value c =
    let s = state_held c.args.state.now in
    let e = c.state_tested-sound.ensures.value ∙ ap state_sound c.view.ensures in
    let a = c.check_going-answer.ensures ∙ ap (λ (b : Bool). going_answer b s.reader.stop) e in
    (came_refused c.args.run.now s _ (sym c.is_err.ensures.value ∙ c.if-is_err.true) a).0

pub returns-then-is_err-clause-taken_value : goal.returns-then-is_err-clause-taken_value
returns-then-is_err-clause-taken_value c =
    let s = state_held c.args.state.now in
    let e = c.state_tested-sound.ensures.value ∙ ap state_sound c.view.ensures in
    let a = c.check_going-answer.ensures ∙ ap (λ (b : Bool). going_answer b s.reader.stop) e in
    (came_refused c.args.run.now s _ (sym c.is_err.ensures.value ∙ c.if-is_err.true) a).1

pub returns : goal.returns
returns c =
    let s = state_held c.args.state.now in
    let e = c.state_tested-sound.ensures.value ∙ ap state_sound c.view.ensures in
    let a = sym (c.check_going-answer.ensures ∙ ap (λ (b : Bool). going_answer b s.reader.stop) e) ∙ accepted _ (sym c.is_err.ensures.value ∙ c.if-is_err.false) in
    let g = sound_given s (going_on (state_sound s) s.reader.stop a).0 (subst StateGiven c.view.ensures c.state_tested-sound.ensures.state_given) in
    let d = c.events_untested.ensures in
    record { same = d.same; answer_value = came_going c.args.run.now s a (d.answer_value g); taken_value = d.taken_value g }
