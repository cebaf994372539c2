-- A markup more, by the chains that are brought up to date before it; or it is refused; or the bytes end.
use Prim.Native.Nat.{◌<◌}
use mathlib.Core.Path.{sym, ◌∙◌, ap}
use native.Mathlib.Omega.{arith}
use lib.ListN.{length}
use Rattle.std.proofs.lemmas.List.{take_rest}
use Rattle.text_index.specs.Chained.{HandleChains}
use Rattle.text_index.specs.Lent.{chains_held}
use Rattle.markup_steps.specs.Held.{ended_meaning}
use Rattle.file_lexer.specs.Lexing.{lex_run}
use Rattle.file_lexer.specs.Held.{told_of}
use Rattle.reader.specs.State.{State}
use Rattle.reader_events.proofs.Chains.{chained_by, served_by}
use Rattle.file_reader.specs.File.{FileState, FileResult, lexing_in}
use Rattle.file_reader.specs.Held.{file_held}
use Rattle.file_reader.proofs.Runs.{told_shorter, kept_lexed, more_ends, not_markup_ends, markup_ends, markup_goes}
use Rattle.file_reader.proofs.bytes_by.Goals as goal

pub returns-in-More-clause-value : goal.returns-in-More-clause-value
returns-in-More-clause-value c =
    λ g i.
    let x = c.lex_on-lexed in
    more_ends (c.loop-state.invariant.3 g i) (file_held x.new.state x.new.file) x.ensures.file (ap told_of (sym c.in-More.is) ∙ x.ensures.told)

pub returns-in-NotMarkup-clause-value : goal.returns-in-NotMarkup-clause-value
returns-in-NotMarkup-clause-value c =
    λ g i.
    let x = c.lex_on-lexed in
    let w = c.loop-state.invariant.3 g i in
    let f : FileState = file_held x.new.state x.new.file in
    let k = kept_lexed w f x.ensures.file (chains_held c.loop-state.chains) (λ z. z) in
    not_markup_ends w f x.ensures.file (ap told_of (sym c.in-NotMarkup.is) ∙ x.ensures.told) (c.markup_malformed.ensures.value k.given)

pub returns-then-is_err-clause-value : goal.returns-then-is_err-clause-value
returns-then-is_err-clause-value c =
    λ g i.
    let x = c.lex_on-lexed in
    let w = c.loop-state.invariant.3 g i in
    let f : FileState = file_held x.new.state x.new.file in
    let d : HandleChains = chains_held c.chain_texts.new.chains in
    let k = kept_lexed w f x.ensures.file d (chained_by (c.storage.ensures ∙ ap (λ (z : State). z.overlay) c.view.ensures) c.chain_texts.ensures.chains) in
    let m = c.markup_ended-answer in
    let y : FileResult = record { file = file_held m.new.state m.new.file; answer = m.result } in
    markup_ends w f x.ensures.file (ended_meaning c.in-Markup.ended) (ap told_of (sym c.in-Markup.is) ∙ x.ensures.told) y
    (m.ensures.value k.given (served_by c.chains.ensures k.chained)) (sym c.is_err.ensures.value ∙ c.if-is_err.true)

pub loop-state-smaller : goal.loop-state-smaller
loop-state-smaller c =
    let x = c.lex_on-lexed in
    let f : FileState = file_held c.loop-state.state c.loop-state.file in
    let t : length (lex_run (lexing_in f) c.loop-state.rest.now).rest < length c.loop-state.rest.now =
    told_shorter (lexing_in f) c.loop-state.rest.now (ended_meaning c.in-Markup.ended) (sym (ap told_of (sym c.in-Markup.is) ∙ x.ensures.told)) in
    omega (arith, t, ap length x.ensures.rest, ap length (take_rest c.loop-state.rest.now x.result.taken))

pub loop-state-preserved : goal.loop-state-preserved
loop-state-preserved c =
    let x = c.lex_on-lexed in
    let m = c.markup_ended-answer in
    let d : HandleChains = chains_held c.chain_texts.new.chains in (
      (let old = c.loop-state.invariant.0 in
          let read = x.ensures.same in
          let new = m.ensures.same in
          record {
            words = new.words ∙ (read.words ∙ old.words);
            bytes = new.bytes ∙ (read.bytes ∙ old.bytes);
            counters = new.counters ∙ (read.counters ∙ old.counters);
            parts = new.parts ∙ (read.parts ∙ old.parts);
          }),
      (let old = c.loop-state.invariant.1 in
          let new = c.chain_texts.ensures.same in
          record { lasts = new.lasts ∙ old.lasts; befores = new.befores ∙ old.befores }),
      m.ensures.same_bytes ∙ (x.ensures.same_bytes ∙ c.loop-state.invariant.2),
      λ g i.
          let w = c.loop-state.invariant.3 g i in
          let f : FileState = file_held x.new.state x.new.file in
          let k = kept_lexed w f x.ensures.file d (chained_by (c.storage.ensures ∙ ap (λ (z : State). z.overlay) c.view.ensures) c.chain_texts.ensures.chains) in
          let y : FileResult = record { file = file_held m.new.state m.new.file; answer = m.result } in
          markup_goes w f x.ensures.file (ended_meaning c.in-Markup.ended) (ap told_of (sym c.in-Markup.is) ∙ x.ensures.told) y
          (m.ensures.value k.given (served_by c.chains.ensures k.chained)) (sym c.is_err.ensures.value ∙ c.if-is_err.false) d k _
          (take_rest c.loop-state.rest.now x.result.taken ∙ x.ensures.rest),
    )
