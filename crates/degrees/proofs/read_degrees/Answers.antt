-- `read_degrees`: no degrees, out of range by the exact degrees, or the nearest.
use mathlib.Core.Path.{◌≡◌, ◌∙◌, ap}
use native.Mathlib.Omega.{arith}
use mir.Syntax.{w32}
use mir.Facts.{to_z-of_z}
use Rattle.std.specs.Prelude.{Ok, Err, Result, Some, option_map}
use Rattle.std.proofs.lemmas.Result.{err_from_is_err_and}
use Rattle.degrees.specs.Degrees.{exact_degrees}
use Rattle.degrees.specs.Exact.{exact_in}
use Rattle.degrees.proofs.Sizes.{not_degrees, out_of_range, in_range, most_bound}
use Rattle.degrees.proofs.read_degrees.Goals as goal

same_err : {A E : Type 0} {x y : E} → ◌≡◌ {A = Result A E} (Err x) (Err y) → x ≡ y
same_err e = cc

pub returns-in_err-exact : goal.returns-in_err-exact
returns-in_err-exact c =
    let k = c.in_err-exact.ensures in
    let p = err_from_is_err_and c.from_residual.result c.from_residual.ensures.1 in
    p.1 ∙ ap Err (p.2 ∙ same_err (rw k.ok_part at k.value)) ∙ not_degrees c.args.axis c.args.text.now _ c.exact_degrees.ensures k.ok_part

pub returns-then-most-exact : goal.returns-then-most-exact
returns-then-most-exact c =
    let a = c.args in
    let x = c.in_ok-exact.exact in
    let e : option_map exact_in (Some x) ≡ exact_degrees a.text.now = rw c.in_ok-exact.ensures.ok_part at c.exact_degrees.ensures in
    out_of_range a.axis a.text.now x e (rw c.most.ensures at c.if-most-exact.true)

pub nearest-requires : goal.nearest-requires
nearest-requires c = omega (arith, most_bound c.args.axis, c.most.ensures, c.if-most-exact.false)

pub returns : goal.returns
returns c =
    let a = c.args in
    let x = c.in_ok-exact.exact in
    let e : option_map exact_in (Some x) ≡ exact_degrees a.text.now = rw c.in_ok-exact.ensures.ok_part at c.exact_degrees.ensures in
    ap Ok (to_z-of_z {w = w32} (record { sfits = c.nearest.type_inv }) ∙ c.nearest.ensures) ∙ in_range a.axis a.text.now x e (rw c.most.ensures at c.if-most-exact.false)
