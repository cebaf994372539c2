-- `size_of`: by the first point.
use mathlib.Core.Path.{sym, ◌∙◌}
use native.Mathlib.Omega.{arith}
use native.Mathlib.Numerals.{add-one}
use Rattle.std.proofs.Common.{rules}
use Rattle.std.proofs.lemmas.List.{take_rest}
use Rattle.degrees.proofs.Sizes.{whole_fits, part_fits, size_parted, size_whole}
use Rattle.degrees.proofs.size_of.Goals as goal

pub returns-in_err-whole-in-Some : goal.returns-in_err-whole-in-Some
returns-in_err-whole-in-Some c =
    let p = size_parted c.args.text.now c.in-Some.at (search rules) (search rules) (search rules) in
    c.from_residual.ensures ∙ sym (rw (← c.in_err-whole-in-Some.ensures) at p)

pub overflow_mul-result : goal.overflow_mul-result
overflow_mul-result c = let f = whole_fits _ (sym c.in_ok-whole-in-Some.ensures) in record { fits = omega (arith, f) }

pub returns-in_err-decimals_size-in-Some : goal.returns-in_err-decimals_size-in-Some
returns-in_err-decimals_size-in-Some c =
    let p = size_parted c.args.text.now c.in-Some.at (search rules) (search rules) (search rules) in
    let q = simp (take_rest, add-one) at c.in_err-decimals_size-in-Some.ensures in
    c.from_residual-in_err-decimals_size-in-Some.ensures ∙ sym (rw (← c.in_ok-whole-in-Some.ensures, ← q) at p)

pub overflow_add-result : goal.overflow_add-result
overflow_add-result c = let f = whole_fits _ (sym c.in_ok-whole-in-Some.ensures) in let q = c.in_ok-decimals_size-in-Some.ensures in let r = part_fits _ (sym q) in record { fits = omega (arith, f, r) }

pub returns-in_err-digits_to-in-None : goal.returns-in_err-digits_to-in-None
returns-in_err-digits_to-in-None c =
    let p = size_whole c.args.text.now (search rules) in
    c.from_residual-in_err-digits_to-in-None.ensures ∙ sym (rw (← c.in_err-digits_to-in-None.ensures) at p)

pub overflow_mul-result-in-None : goal.overflow_mul-result-in-None
overflow_mul-result-in-None c = let f = whole_fits _ (sym c.in_ok-digits_to-in-None.ensures) in record { fits = omega (arith, f) }

pub returns-in_ok-decimals_size-in-Some : goal.returns-in_ok-decimals_size-in-Some
returns-in_ok-decimals_size-in-Some c =
    let p = size_parted c.args.text.now c.in-Some.at (search rules) (search rules) (search rules) in
    let q = simp (take_rest, add-one) at c.in_ok-decimals_size-in-Some.ensures in
    sym (rw (← c.in_ok-whole-in-Some.ensures, ← q) at p)

pub returns-in_ok-digits_to-in-None : goal.returns-in_ok-digits_to-in-None
returns-in_ok-digits_to-in-None c =
    let p = size_whole c.args.text.now (search rules) in
    sym (rw (← c.in_ok-digits_to-in-None.ensures) at p)
