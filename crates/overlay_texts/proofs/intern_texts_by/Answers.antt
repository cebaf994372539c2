-- A text more, by the chains that are brought up to date before it; or it is refused.
use mathlib.Core.Path.{◌∙◌}
use Rattle.overlay_texts.proofs.Onward.{texts_chained, texts_go, texts_stop, texts_end, served_by}
use Rattle.overlay_texts.proofs.intern_texts_by.Goals as goal

pub loop-text-preserved : goal.loop-text-preserved
loop-text-preserved c =
    let w = c.loop-text.invariant.2 in
    let d = texts_chained w c.storage.ensures c.chain_texts.ensures.chains in (
      (let old = c.loop-text.invariant.0 in
          let new = c.intern_untested.ensures.same in
          record { words = new.words ∙ old.words; bytes = new.bytes ∙ old.bytes; counters = new.counters ∙ old.counters }),
      (let old = c.loop-text.invariant.1 in
          let new = c.chain_texts.ensures.same in
          record { lasts = new.lasts ∙ old.lasts; befores = new.befores ∙ old.befores }),
      texts_go w c.in-Some.ensures.steps _ d _ (c.in-Ok.ensures.done w.given.sound (served_by c.chains.ensures d)),
    )

pub returns-in-Err-clause-done : goal.returns-in-Err-clause-done
returns-in-Err-clause-done c =
    let w = c.loop-text.invariant.2 in
    let d = texts_chained w c.storage.ensures c.chain_texts.ensures.chains in
    texts_stop w c.in-Some.ensures.steps _ (c.in-Err.ensures.done w.given.sound (served_by c.chains.ensures d))

pub returns-clause-done : goal.returns-clause-done
returns-clause-done c = texts_end c.loop-text.invariant.2 c.in-None.ensures.steps.0
