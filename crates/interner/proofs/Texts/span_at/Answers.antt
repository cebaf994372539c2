-- `span_at` says where the string of a handle lies, by the pair of its words.
use mathlib.Core.Path.{refl, sym, ◌∙◌}
use native.Mathlib.Omega.{arith}
use Prim.Native.Nat.{◌/◌}
use lib.ListN.{length}
use borrow.Author.Tests.{ltb-true, ltb-false}
use Rattle.interner.proofs.Finds.{no_words, missing}
use Rattle.interner.proofs.Pairs.{span_of_pair}
use Rattle.interner.proofs.Texts.span_at.Goals as goal

pub returns-in_err-start : goal.returns-in_err-start
returns-in_err-start c =
    let a = c.args in
    let s = a.self.now in
    c.from_residual.ensures ∙ sym (missing s.spans.now s.bytes.now a.h (no_words s.spans.now s.bytes.now a.h (omega (arith, ltb-false _ _ (sym c.in_err-start.ensures.lookup.0), c.as_chunks.ensures.front_len))))

pub returns-then-within : goal.returns-then-within
returns-then-within c =
    let a = c.args in
    let s = a.self.now in
    let p = c.in_ok-start.field-0.now in
    let h = ltb-true _ _ (sym c.in_ok-start.ensures.lookup.0) in
    rw (← c.within.ensures, c.if-within.true) at (span_of_pair s.spans.now s.bytes.now a.h (length s.spans.now / 2) p _ refl (omega (arith, h, c.as_chunks.ensures.front_len)) (rw c.as_chunks.ensures.front at c.in_ok-start.ensures.lookup.1))

pub returns-else-within : goal.returns-else-within
returns-else-within c =
    let a = c.args in
    let s = a.self.now in
    let p = c.in_ok-start.field-0.now in
    let h = ltb-true _ _ (sym c.in_ok-start.ensures.lookup.0) in
    rw (← c.within.ensures, c.if-within.false) at (span_of_pair s.spans.now s.bytes.now a.h (length s.spans.now / 2) p _ refl (omega (arith, h, c.as_chunks.ensures.front_len)) (rw c.as_chunks.ensures.front at c.in_ok-start.ensures.lookup.1))
