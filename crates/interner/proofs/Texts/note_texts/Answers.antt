use mathlib.Core.Path.{◌≡◌, sym, ◌∙◌}
use native.Mathlib.Omega.{arith}
use Rattle.interner.proofs.Words.{not_legal, words_decide}
use Rattle.interner.proofs.Texts.note_texts.Goals as goal

pub returns-then-not-note_text : goal.returns-then-not-note_text
returns-then-not-note_text c = λ small.
    let a = c.args in
    not_legal a.self.now.spans.now a.self.now.bytes.now a.n c.loop-h.h c.loop-h-test.true (sym c.note_text.ensures.value ∙ c.if-not-note_text.true)

pub returns : goal.returns
returns c = λ small room.
    let a = c.args in
    let l = c.loop-h in
    let e : l.h ≡ a.n = omega arith in
    words_decide a.self.now.spans.now a.self.now.bytes.now l.words a.n room (rw e at l.invariant.legal) (rw e at (l.invariant.noted small room))
