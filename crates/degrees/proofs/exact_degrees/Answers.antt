-- `exact_degrees`: by the first byte.
use Prim.Native.Nat.{◌-◌}
use mathlib.Core.Path.{◌≡◌, sym, ◌∙◌, ap}
use native.Mathlib.Omega.{arith}
use lib.ListN.{length, take, drop, length-drop}
use lib.Seq.{take_all}
use Rattle.std.specs.Prelude.{option_map}
use Rattle.base.specs.Bytes.{Bytes}
use Rattle.degrees.specs.Exact.{size_of, exact_in}
use Rattle.degrees.proofs.Sizes.{held_plus, held_minus, exact_empty, exact_plus, exact_minus, exact_plain}
use Rattle.degrees.proofs.exact_degrees.Goals as goal

-- what is left behind the first byte
rest : (s : Bytes) → take (length s - 1) (drop 1 s) ≡ drop 1 s
rest s = take_all (length s - 1) (drop 1 s) (omega (arith, length-drop 1 s))

pub returns-in-empty : goal.returns-in-empty
returns-in-empty c = sym (exact_empty c.args.text.now (omega arith))

pub returns-in-43 : goal.returns-in-43
returns-in-43 c =
    let s = c.args.text.now in
    ap (option_map exact_in) (rw (rest s) at c.behind_sign.ensures) ∙ held_plus (size_of (drop 1 s)) ∙ sym (exact_plus s (omega arith) (omega arith))

pub returns-in-45 : goal.returns-in-45
returns-in-45 c =
    let s = c.args.text.now in
    ap (option_map exact_in) (rw (rest s) at c.behind_sign-in-45.ensures) ∙ held_minus (size_of (drop 1 s)) ∙ sym (exact_minus s (omega arith) (omega arith))

pub returns-in_default : goal.returns-in_default
returns-in_default c =
    let s = c.args.text.now in
    ap (option_map exact_in) c.behind_sign-in_default.ensures ∙ held_plus (size_of s) ∙ sym (exact_plain s (omega arith) (λ e. omega arith) (λ e. omega arith))
