-- `put_measured` writes the digits of a number where they fit.
use mathlib.Core.Path.{sym, ◌∙◌, ap}
use native.Mathlib.Omega.{arith}
use lib.ListN.{length-take}
use Rattle.line.specs.Decimal.{number_text}
use Rattle.decimal.specs.Put.{Wrote}
use Rattle.decimal.proofs.Puts.{lent_part, put_whole, put_nothing}
use Rattle.decimal.proofs.put_measured.Goals as goal

pub returns-then-n-out : goal.returns-then-n-out
returns-then-n-out c e =
    let a = c.args in
    lent_part a.out.now _ (number_text a.v) 0 a.n (omega arith) e (c.put_digits.ensures (omega (arith, e, length-take a.n a.out.now))) ∙ ap (λ (w : Wrote). w.bytes) (sym (put_whole a.out.now (number_text a.v) (omega arith)))

pub returns-else-n-out : goal.returns-else-n-out
returns-else-n-out c e =
    let a = c.args in
    ap (λ (w : Wrote). w.bytes) (sym (put_nothing a.out.now (number_text a.v) (omega arith)))
