-- `stamp_field`: the number of the field's digits, which is at most 9999.
use Rattle.std.specs.Prelude.{Ok, Err, Result, Some}
use Rattle.std.specs.Result.{OkIff, result_ok}
use Prim.Native.Nat.{ℕ}
use mathlib.Core.Path.{◌≡◌, ◌∙◌, ap}
use native.Mathlib.Omega.{arith}
use Rattle.integer.proofs.Integers.{at_most_lem}
use Rattle.stamp.proofs.Reading.{field_read}
use Rattle.stamp.proofs.stamp_field.Goals as goal

-- a number that fits is the answer of `try_from`
fitting : {E : Type 0} (r : Result ℕ E) {n : ℕ} {P : Type 0} → OkIff r P n → P → result_ok r ≡ Some n
fitting (Ok x) f p = ap Some f.1
fitting (Err e) f p = absurd (f p)

pub returns-in_err-n : goal.returns-in_err-n
returns-in_err-n c = rw c.from_residual.ensures (c.in_err-n.ensures ∙ field_read c.args.field.now c.requires)

pub returns : goal.returns
returns c =
    let n = at_most_lem _ c.in_ok-n.ensures in
    c.ok.ensures.value ∙ (fitting c.try_from.result c.try_from.ensures (omega arith) ∙ (c.in_ok-n.ensures ∙ field_read c.args.field.now c.requires))
