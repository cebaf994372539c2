-- `string_at`: the part of the bytes that the span says.
use mathlib.Core.Path.{sym, ◌∙◌}
use native.Mathlib.Omega.{arith}
use Rattle.interner.proofs.Finds.{span_bytes, string_lies, string_missing}
use Rattle.interner.proofs.Texts.string_at.Goals as goal

pub returns-in_err-p : goal.returns-in_err-p
returns-in_err-p c =
    let a = c.args in
    rw c.from_residual.ensures (string_missing a.self.now.spans.now a.self.now.bytes.now a.h (sym c.in_err-p.was ∙ c.span_at.ensures))

pub overflow_add-end : goal.overflow_add-end
overflow_add-end c = let a = c.args in omega (arith, span_bytes a.self.now.spans.now a.self.now.bytes.now a.h c.in_ok-p.p c.in_ok-p.ensures)

pub slice_bounds-result-end : goal.slice_bounds-result-end
slice_bounds-result-end c = let a = c.args in omega (arith, span_bytes a.self.now.spans.now a.self.now.bytes.now a.h c.in_ok-p.p c.in_ok-p.ensures)

pub returns : goal.returns
returns c = let a = c.args in string_lies a.self.now.spans.now a.self.now.bytes.now a.h c.in_ok-p.p c.in_ok-p.ensures
