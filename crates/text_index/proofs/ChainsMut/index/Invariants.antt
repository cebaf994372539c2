-- `index` links the handles in order. The invariant: the chains hold those passed, and there is room for all.
use Rattle.std.specs.Prelude.{◌≡◌, ◌≤◌, length}
use Rattle.interner.specs.Lent.{store_seen}
use Rattle.interner.specs.Sound.{texts_of}
use Rattle.text_index.specs.Chained.{Chained, StoreChained}
use Rattle.text_index.specs.Lent.{chains_held, IsSameChains}
use Rattle.text_index.proofs.ChainsMut.index.Given as goal

abbrev pub invariant-loop-h : goal.invariant-loop-h
invariant-loop-h l =
    record {
      same : IsSameChains l.self l.fn.self;
      lasts : 4096 ≤ length l.self.lasts.now;
      befores : 4096 ≤ length l.self.befores.now;
      few : l.fn.self.handles ≤ 4096 → l.self.handles ≤ 4096;
      chains : StoreChained (chains_held l.fn.self) (store_seen l.strings) → Chained (chains_held l.self) (texts_of (store_seen l.strings)) × (l.self.handles ≡ l.h);
    }
