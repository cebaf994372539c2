-- `intern`: what the search by the chains found is taken in.
use mathlib.Core.Path.{◌≡◌, ◌∙◌, ap}
use Rattle.interner.specs.Strings.{Store, intern}
use Rattle.interner.specs.Lent.{store_held, find_held}
use Rattle.text_index.specs.Chained.{ChainsServe}
use Rattle.text_index.specs.Lent.{chains_seen}
use Rattle.text_index.proofs.Chains.intern.Goals as goal

-- what the search found in the strings as they were
found : (c : goal.After-intern_found) → ChainsServe (chains_seen c.args.self.now) (store_held c.args.strings.now) → c.find-found.result ≡ find_held (store_held c.args.strings.now) c.args.text.now
found c g = c.find-found.ensures (λ h. rw c.strings.ensures (g h)) ∙ ap (λ (s : Store). find_held s c.args.text.now) c.strings.ensures

pub returns-clause-store : goal.returns-clause-store
unfolding intern
returns-clause-store c = λ g. rw (found c g) at c.intern_found.ensures.store

pub returns-clause-handle : goal.returns-clause-handle
unfolding intern
returns-clause-handle c = λ g. rw (found c g) at c.intern_found.ensures.handle
