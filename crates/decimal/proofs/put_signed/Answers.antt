-- `put_signed` writes a minus sign and the digits of a number where they fit.
use Prim.Native.Nat.{◌+◌, ◌-◌}
use mathlib.Core.Path.{◌≡◌, sym, ◌∙◌, ap}
use native.Mathlib.Omega.{arith}
use lib.ListN.{length, length-set, length-take, length-drop}
use Rattle.line.specs.Decimal.{number_text}
use Rattle.little.specs.Little.{over}
use Rattle.decimal.specs.Put.{signed_text}
use Rattle.decimal.proofs.Numbers.{length_most}
use Rattle.decimal.proofs.Puts.{lent_part, whole, sign_most, put_nothing, signed_length, signed_minus, signed_plain}
use Rattle.decimal.proofs.put_signed.Goals.{then-minus, else-minus}
use Rattle.decimal.proofs.put_signed.Goals as goal

pub overflow_add-sign : goal.overflow_add-sign
overflow_add-sign c =
    record { fits = omega (arith, c.from-sign.ensures, sign_most c.args.minus, c.number_length-n.ensures, length_most 19 c.args.v (omega arith)) }

pub returns-then-out-sign : goal.returns-then-out-sign
returns-then-out-sign c =
    let a = c.args in
    sym (put_nothing a.out.now (signed_text a.minus a.v) (omega (arith, signed_length a.minus a.v, c.from-sign.ensures, c.number_length-n.ensures)))

pub returns : goal.returns
returns c =
    let a = c.args in
    let s = a.out.now in
    let size = signed_length a.minus a.v in
    let n = c.number_length-n.ensures in
    let long : length c.if-minus.out ≡ length s =
    elim c.if-minus.branch [
      | then-minus w ↦ rw w.out-is (length-set s 0 45)
      | else-minus w ↦ rw w.out-is
    ] in
    let part : c.from-sign.result + c.number_length-n.result - c.from-sign.result ≡ c.number_length-n.result = omega arith in
    let written =
    lent_part c.if-minus.out _ (number_text a.v) c.from-sign.result _ (omega (arith, long)) (part ∙ n) (c.put_digits.ensures (simp (length-take, length-drop) (omega (arith, n, long))))
    ∙ ap (λ i. over c.if-minus.out i (number_text a.v)) c.from-sign.ensures in
    whole s (signed_text a.minus a.v) _ (c.from-sign.result + c.number_length-n.result) (omega arith) (omega (arith, size, n, c.from-sign.ensures))
    (elim c.if-minus.branch [
      | then-minus w ↦ written ∙ (rw w.out-is (signed_minus s a.minus a.v w.if-minus.true (omega (arith, rw w.if-minus.true at c.from-sign.ensures))))
      | else-minus w ↦ written ∙ (rw w.out-is (signed_plain s a.minus a.v w.if-minus.false))
    ])
