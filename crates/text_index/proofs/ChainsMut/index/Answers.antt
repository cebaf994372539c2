use Prim.Native.Nat.{◌+◌}
use mathlib.Core.Path.{◌∙◌, ap}
use native.Mathlib.Omega.{arith}
use lib.ListN.{length, get_or, length-set}
use Rattle.interner.specs.Lent.{store_seen}
use Rattle.text_index.specs.Lent.{chains_held}
use Rattle.text_index.specs.Chained.{HandleChains}
use Rattle.text_index.proofs.More.{linked_store}
use Rattle.text_index.proofs.ChainsMut.index.Goals as goal

pub loop-h-preserved : goal.loop-h-preserved
loop-h-preserved c =
    let l = c.loop-h in
    let n = l.self in
    let b = c.in-Some.b in
    let e = c.link.ensures.chains in
    let t = c.texts-texts.ensures in
    record {
      same = record { lasts = c.link.ensures.same.lasts ∙ l.invariant.same.lasts; befores = c.link.ensures.same.befores ∙ l.invariant.same.befores };
      lasts = omega (arith, ap (λ (x : HandleChains). length x.lasts) e, length-set n.lasts.now b (l.h + 1), l.invariant.lasts);
      befores = omega (arith, ap (λ (x : HandleChains). length x.befores) e, length-set n.befores.now l.h (get_or n.lasts.now b 0), l.invariant.befores);
      few = λ g. omega (arith, ap (λ (x : HandleChains). x.handles) e, c.lesser-end.ensures);
      chains = λ g. (rw e (linked_store (chains_held n) (store_seen c.args.strings.now) b l.h l.invariant.lasts l.invariant.befores c.in-Some.ensures.below (omega (arith, c.lesser-end.ensures)) (omega (arith, c.lesser-end.ensures)) g.sound (rw (t.spans, t.bytes) at c.in-Some.ensures.value) (l.invariant.chains g)), ap (λ (x : HandleChains). x.handles) e);
    }
