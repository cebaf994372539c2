-- `sound_in_pairs`: each handle is new, or the one at which it stops is not.
use mathlib.Core.Path.{◌≡◌, refl}
use mathlib.Core.Bool.{true, false}
use native.Mathlib.Omega.{arith}
use Rattle.std.proofs.Common.{rules}
use borrow.Author.Tests.{tests}
use Rattle.std.proofs.lemmas.Iterator.{cases_from_all, YieldsList-from_range}
use Rattle.interner.specs.Check.{new_at}
use Rattle.interner.proofs.Checks.{each_decides}
use Rattle.interner.proofs.Texts.sound_in_pairs.Goals as goal

pub returns : goal.returns
returns c =
    let a = c.args in
    each_decides a.self.now.spans.now a.self.now.bytes.now a.n c.all.result
    (cases_from_all _ _ _ (λ h. new_at a.self.now.spans.now a.self.now.bytes.now h ≡ true) (λ h. new_at a.self.now.spans.now a.self.now.bytes.now h ≡ false) c.all.ensures.ran (YieldsList-from_range 0 a.n a.n refl (omega arith)) (λ x q k. search (rules, tests)) (λ x q k. search (rules, tests)))
