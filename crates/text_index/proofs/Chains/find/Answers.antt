-- `find`: what the chain finds is the text's one handle; where it finds none, the handles from there on decide.
use native.Mathlib.Omega.{arith}
use mathlib.Core.Path.{sym, ◌∙◌}
use Rattle.interner.specs.Strings.{used_of}
use Rattle.interner.specs.Lent.{store_seen}
use Rattle.text_index.specs.Lent.{chains_seen}
use Rattle.text_index.proofs.Chaining.{found_chained, found_rest}
use Rattle.text_index.proofs.Search.{held_few, texts_given}
use Rattle.text_index.proofs.Chains.find.Goals as goal

pub returns-in-Some : goal.returns-in-Some
returns-in-Some c = λ g.
    let a = c.args in
    let s = store_seen a.strings.now in
    let t = texts_given (chains_seen a.self.now) s (g (omega (arith, c.if-self-lt16.false))) in
    let b = held_few (chains_seen a.self.now) s.spans (used_of s) a.text.now s.strings t in
    let e = c.texts-texts.ensures in
    sym (found_chained s.spans (used_of s) a.text.now a.self.now.handles s.strings c.in-Some.h b t.sound ((rw (e.spans, e.bytes) at c.in-Some.ensures) s.strings t))

pub returns-in-None : goal.returns-in-None
returns-in-None c = λ g.
    let a = c.args in
    let s = store_seen a.strings.now in
    let t = texts_given (chains_seen a.self.now) s (g (omega (arith, c.if-self-lt16.false))) in
    let b = held_few (chains_seen a.self.now) s.spans (used_of s) a.text.now s.strings t in
    let e = c.texts-texts.ensures in
    (rw (e.spans, e.bytes) at c.find_from.ensures)
    ∙ sym (found_rest s.spans (used_of s) a.text.now a.self.now.handles s.strings b ((rw (e.spans, e.bytes) at c.in-None.ensures) s.strings t))
