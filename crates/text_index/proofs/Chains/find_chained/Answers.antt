use mathlib.Core.Path.{sym, ◌∙◌}
use Rattle.text_index.specs.Lent.{chains_seen}
use Rattle.text_index.proofs.Search.{chain_start, chain_next, below_less}
use Rattle.text_index.proofs.Chains.find_chained.Goals as goal

pub loop-init : goal.loop-init
loop-init c =
    let a = c.args in
    let t = a.texts.now in
    let b = c.bucket in
    (c.handle_at-last.ensures.below, λ count g. chain_start (chains_seen a.self.now) t.spans.now t.bytes.now a.text.now count g b.result _ b.ensures.0 b.ensures.1 c.handle_at-last.ensures.value)

pub loop-preserved : goal.loop-preserved
loop-preserved c =
    let a = c.args in
    let t = a.texts.now in
    let i = rw c.in_ok-h.was at c.loop.invariant in
    let n = sym c.is_at.ensures ∙ c.if-is_at.false in (
      below_less c.handle_at-last-in-loop.result c.in_ok-h.h a.self.now.handles i.0 c.handle_at-last-in-loop.ensures.below,
      λ count g. chain_next (chains_seen a.self.now) t.spans.now t.bytes.now a.text.now count g c.in_ok-h.h _ i.0 (i.1 count g) n c.handle_at-last-in-loop.ensures.value,
    )
