-- `intern`: the search, then what it found is taken in.
use mathlib.Core.Path.{◌≡◌, ◌∙◌, ap}
use Rattle.interner.specs.Strings.{Store, intern}
use Rattle.interner.specs.Lent.{store_held, find_held}
use Rattle.interner.proofs.StringsMut.intern.Goals as goal

-- what the search found in the strings as they were
found : (c : goal.After-intern_found) → c.find-found.result ≡ find_held (store_held c.args.self.now) c.args.text.now
found c = c.find-found.ensures ∙ ap (λ (s : Store). find_held s c.args.text.now) c.strings.ensures

pub returns-clause-store : goal.returns-clause-store
unfolding intern
returns-clause-store c = rw (found c) at c.intern_found.ensures.store

pub returns-clause-handle : goal.returns-clause-handle
unfolding intern
returns-clause-handle c = rw (found c) at c.intern_found.ensures.handle
