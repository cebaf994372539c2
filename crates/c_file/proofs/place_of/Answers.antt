-- A place by its number and the words beside it; or none where one of them is none's.
use mathlib.Core.Path.{sym, ◌∙◌}
use native.Mathlib.Omega.{arith}
use lib.Dec.{eqb}
use borrow.Author.Tests.{ne_eqb}
use Rattle.base.specs.Bytes.{both}
use Rattle.base.proofs.Split.{by_bool}
use Rattle.c_file.specs.Words.{place_coded}
use Rattle.c_file.proofs.Within.{coded, not_coded, first_within, second_within}
use Rattle.c_file.proofs.place_of.Goals as goal

pub overflow_cast-first : goal.overflow_cast-first
overflow_cast-first c =
    let k = c.args in
    let h = first_within k.number k.first k.second (sym c.is_detailed.ensures ∙ c.if-is_detailed.true) in
    record { fits = omega arith }

pub overflow_cast-second : goal.overflow_cast-second
overflow_cast-second c =
    let k = c.args in
    let h = second_within k.number k.first k.second (sym c.is_detailed.ensures ∙ c.if-is_detailed.true) in
    record { fits = omega arith }

pub returns-then-number-eq0 : goal.returns-then-number-eq0
unfolding place_coded both
returns-then-number-eq0 c =
    let d = sym c.is_detailed.ensures ∙ c.if-is_detailed.true in
    rw (d, c.if-number-eq0.true, c.then_some.ensures, c.before_of.ensures) (by_bool (eqb c.args.chars 0) (λ t. rw t) (λ t. rw t))

pub returns-in_err-chars : goal.returns-in_err-chars
unfolding place_coded both
returns-in_err-chars c =
    let d = sym c.is_detailed.ensures ∙ c.if-is_detailed.true in
    rw (d, ne_eqb c.args.number 0 c.if-number-eq0.false, not_coded _ c.in_err-chars.ensures, c.from_residual.ensures)

pub returns-then-is_detailed : goal.returns-then-is_detailed
unfolding place_coded both
returns-then-is_detailed c =
    let d = sym c.is_detailed.ensures ∙ c.if-is_detailed.true in
    let h = coded c.in_ok-chars.ensures in
    rw (d, ne_eqb c.args.number 0 c.if-number-eq0.false, h.0, h.1, c.markup_of.ensures)

pub returns : goal.returns
unfolding place_coded both
returns c = rw (sym c.is_detailed.ensures ∙ c.if-is_detailed.false)
