-- `add` writes the span and the text, each over the rest that it is lent.
use Prim.Native.Nat.{◌*◌}
use mathlib.Core.List.{[], ◌∷◌}
use native.Mathlib.Omega.{arith}
use lib.ListN.{length}
use Rattle.little.proofs.Overs.{over_lent_start}
use Rattle.interner.specs.Strings.{added}
use Rattle.interner.proofs.StringsMut.add.Goals as goal

pub returns-clause-store : goal.returns-clause-store
unfolding added
returns-clause-store c =
    let a = c.args in
    let s = over_lent_start a.self.now.spans.now _ (2 * a.self.now.count) (a.self.now.used ∷ length a.text.now ∷ []) (omega arith) c.put_span.ensures in
    let b = over_lent_start a.self.now.bytes.now _ a.self.now.used a.text.now (omega arith) c.copy_in.ensures in
    rw (s, b)
