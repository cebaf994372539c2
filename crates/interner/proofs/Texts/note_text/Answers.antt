-- `note_text`: the string lies within the bytes, and the text check takes it. Its word is then among the words.
use mathlib.Core.Path.{◌≡◌, refl, sym, ◌∙◌}
use native.Mathlib.Omega.{arith}
use Rattle.distinct.specs.Distinct.{run_in}
use Rattle.interner.specs.Strings.{bytes_at}
use Rattle.interner.proofs.Finds.{lies, span_bytes}
use Rattle.interner.proofs.Words.{noted_more, legal_missing, legal_lies}
use Rattle.interner.proofs.Texts.note_text.Goals as goal

pub returns-in_default-clause-value : goal.returns-in_default-clause-value
returns-in_default-clause-value c =
    let a = c.args in
    sym (legal_missing a.self.now.spans.now a.self.now.bytes.now a.h (sym c.in_default.is ∙ c.span_at.ensures))

pub overflow_add-end : goal.overflow_add-end
overflow_add-end c = let a = c.args in omega (arith, span_bytes a.self.now.spans.now a.self.now.bytes.now a.h c.in-Some.p c.in-Some.ensures)

pub slice_bounds-is_text-end : goal.slice_bounds-is_text-end
slice_bounds-is_text-end c = let a = c.args in omega (arith, span_bytes a.self.now.spans.now a.self.now.bytes.now a.h c.in-Some.p c.in-Some.ensures)

pub returns-then-is_text-clause-value : goal.returns-then-is_text-clause-value
returns-then-is_text-clause-value c =
    let a = c.args in
    let p = c.in-Some.p in
    let l = lies a.self.now.spans.now a.self.now.bytes.now a.h p c.in-Some.ensures in
    sym (legal_lies a.self.now.spans.now a.self.now.bytes.now a.h p.start p.len _ l refl ∙ (sym c.is_text.ensures ∙ c.if-is_text.true))

pub returns-then-is_text-clause-words_noted : goal.returns-then-is_text-clause-words_noted
returns-then-is_text-clause-words_noted c = λ small room noted q.
    let a = c.args in
    let p = c.in-Some.p in
    let l = lies a.self.now.spans.now a.self.now.bytes.now a.h p c.in-Some.ensures in
    let w = c.run_word in
    let k : run_in a.self.now.bytes.now w.result ≡ bytes_at a.self.now.spans.now a.self.now.bytes.now a.h =
    w.ensures (span_bytes a.self.now.spans.now a.self.now.bytes.now a.h p c.in-Some.ensures) small ∙ rw (l.starts, l.long) in
    rw c.put_word.ensures (noted_more a.self.now.spans.now a.self.now.bytes.now a.words.now a.h w.result room noted k)

pub returns-else-is_text-clause-value : goal.returns-else-is_text-clause-value
returns-else-is_text-clause-value c =
    let a = c.args in
    let p = c.in-Some.p in
    let l = lies a.self.now.spans.now a.self.now.bytes.now a.h p c.in-Some.ensures in
    sym (legal_lies a.self.now.spans.now a.self.now.bytes.now a.h p.start p.len _ l refl ∙ (sym c.is_text.ensures ∙ c.if-is_text.false))
