-- A line more, by the chains that are brought up to date before it; or it is refused.
use mathlib.Core.Path.{refl, sym, ◌∙◌, ap}
use native.Mathlib.Omega.{arith}
use Rattle.std.proofs.lemmas.List.{take_rest}
use Rattle.reader.specs.State.{State}
use Rattle.reader.specs.Lent.{state_held}
use Rattle.reader_events.proofs.Runs.{line_off, lines_end, came_off, came_rest, within_start, within_line}
use Rattle.reader_events.proofs.Chains.{by_start, by_line, chained_by, served_by}
use Rattle.reader_events.proofs.events_by.Goals as goal

pub loop-line-init : goal.loop-line-init
loop-line-init c =
    let e = c.into_iter-line-iterator.ensures.into_iter_gives in (
      record { words = refl; bytes = refl; counters = refl; parts = refl },
      record { lasts = refl; befores = refl },
      rw e (within_start c.args.run.now),
      λ g i. rw e (by_start _ _ (state_held c.args.state.now) g i),
    )

pub returns-then-is_err-clause-same : goal.returns-then-is_err-clause-same
returns-then-is_err-clause-same c =
    let same = c.loop-line.invariant.0 in
    let now = c.line_event-answer.ensures.same in
    record { words = now.words ∙ same.words; bytes = now.bytes ∙ same.bytes; counters = now.counters ∙ same.counters; parts = now.parts ∙ same.parts }

pub returns-then-is_err-clause-same_chains : goal.returns-then-is_err-clause-same_chains
returns-then-is_err-clause-same_chains c =
    let old = c.loop-line.invariant.1 in
    let new = c.chain_texts.ensures.same in
    record { lasts = new.lasts ∙ old.lasts; befores = new.befores ∙ old.befores }

pub returns-then-is_err-clause-answer_value : goal.returns-then-is_err-clause-answer_value
returns-then-is_err-clause-answer_value c =
    λ g i.
    let w = c.loop-line.invariant.3 g i in
    let j = chained_by (c.storage.ensures ∙ ap (λ (z : State). z.overlay) c.view.ensures) c.chain_texts.ensures.chains w.chained in
    let k = served_by c.chains.ensures j in
    let x = sym c.is_err.ensures.value ∙ c.if-is_err.true in
    (came_off c.args.run.now (state_held c.args.state.now) _ _ (line_off w.running c.in-Some.ensures.steps _ (c.line_event-answer.ensures.value w.running.given k) x) x).0

pub returns-then-is_err-clause-taken_value : goal.returns-then-is_err-clause-taken_value
returns-then-is_err-clause-taken_value c =
    λ g i.
    let w = c.loop-line.invariant.3 g i in
    let j = chained_by (c.storage.ensures ∙ ap (λ (z : State). z.overlay) c.view.ensures) c.chain_texts.ensures.chains w.chained in
    let k = served_by c.chains.ensures j in
    (line_off w.running c.in-Some.ensures.steps _ (c.line_event-answer.ensures.value w.running.given k) (sym c.is_err.ensures.value ∙ c.if-is_err.true)).1

pub returns-then-is_err-clause-taken_in_bounds : goal.returns-then-is_err-clause-taken_in_bounds
returns-then-is_err-clause-taken_in_bounds c = omega (arith, c.loop-line.invariant.2)

pub overflow_add-taken : goal.overflow_add-taken
overflow_add-taken c =
    let w = within_line _ _ c.loop-line.invariant.2 c.in-Some.ensures.steps in
    omega (arith, w)

pub loop-line-preserved : goal.loop-line-preserved
loop-line-preserved c =
    let same = c.loop-line.invariant.0 in
    let now = c.line_event-answer.ensures.same in (
      record { words = now.words ∙ same.words; bytes = now.bytes ∙ same.bytes; counters = now.counters ∙ same.counters; parts = now.parts ∙ same.parts },
      (let old = c.loop-line.invariant.1 in
          let new = c.chain_texts.ensures.same in
          record { lasts = new.lasts ∙ old.lasts; befores = new.befores ∙ old.befores }),
      within_line _ _ c.loop-line.invariant.2 c.in-Some.ensures.steps,
      λ g i.
          let w = c.loop-line.invariant.3 g i in
          let j = chained_by (c.storage.ensures ∙ ap (λ (z : State). z.overlay) c.view.ensures) c.chain_texts.ensures.chains w.chained in
          let k = served_by c.chains.ensures j in
          by_line w.running _ j c.in-Some.ensures.steps _ (c.line_event-answer.ensures.value w.running.given k) (sym c.is_err.ensures.value ∙ c.if-is_err.false),
    )

pub returns-clause-answer_value : goal.returns-clause-answer_value
returns-clause-answer_value c =
    λ g i.
    let w = c.loop-line.invariant.3 g i in
    let run = c.args.run.now in
    let l = lines_end w.running c.in-None.ensures.steps.0 in
    let x = c.rest_event-answer.ensures.value w.running.given (served_by c.chains-2.ensures w.chained) in
    (came_rest run (state_held c.args.state.now) c.loop-line.taken _ l _ (rw (← take_rest run c.loop-line.taken) x)).0

pub returns-clause-taken_value : goal.returns-clause-taken_value
returns-clause-taken_value c = λ g i. (lines_end (c.loop-line.invariant.3 g i).running c.in-None.ensures.steps.0).1
