use Rattle.std.proofs.Common.{◌≡◌, ◌∙◌, ap, arith}
use Rattle.little.specs.Little.{value, value_at}
use Rattle.little.proofs.Littles.{bytes_of, value_at_within}
use Rattle.little.proofs.get_le.Goals as goal

pub returns-clause-value : goal.returns-clause-value
unfolding value_at
returns-clause-value c = c.number.ensures ∙ ap value c.there.ensures

pub returns-clause-bound : goal.returns-clause-bound
unfolding value_at
returns-clause-bound c =
    let a = c.args in
    let e : c.number.result ≡ value_at a.n a.s.now a.at = c.number.ensures ∙ ap value c.there.ensures in
    omega (arith, e, value_at_within a.n a.s.now a.at (bytes_of a.s.now (λ i h. omega (arith, c.type_inv.s i))))
