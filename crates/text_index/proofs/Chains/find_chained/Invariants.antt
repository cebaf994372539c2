-- `find_chained` goes along the chain of the text's bucket. The invariant: no handle that the chain has passed has the text.
use Prim.Native.Nat.{ℕ, ◌<◌}
use Rattle.std.specs.Prelude.{IfSome}
use Rattle.text_index.specs.Chained.{TextsChained}
use Rattle.text_index.specs.Lent.{chains_seen}
use Rattle.text_index.proofs.Chaining.{ChainLeft}
use Rattle.text_index.proofs.Search.{coded}
use Rattle.text_index.proofs.Chains.find_chained.Given as goal

abbrev pub invariant-loop : goal.invariant-loop
invariant-loop l =
    IfSome l.last (λ h. h < l.self.handles)
    × ((count : ℕ) → TextsChained (chains_seen l.self) l.texts.spans.now l.texts.bytes.now count → ChainLeft l.texts.spans.now l.texts.bytes.now l.text l.self.handles (coded l.last))
