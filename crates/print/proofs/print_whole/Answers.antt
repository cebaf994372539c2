-- Measured, and then written where it fits.
use borrow.Author.Rules.{rules}
use mathlib.Core.Path.{◌∙◌, ap}
use Rattle.print.specs.Print.{Printed}
use Rattle.print.proofs.Prints.{room_print}
use Rattle.print.proofs.Walks.{whole_short, room_left, whole_written}
use Rattle.print.proofs.print_whole.Goals as goal

pub returns-in_err-left : goal.returns-in_err-left
returns-in_err-left g c =
    let xs = g.P.Printable.pieces c.args.page.now in
    let e = ap (λ (p : Printed). p.room) c.print.ensures.printed ∙ room_print _ xs _ in
    whole_short c.args.out.now xs e c.in_err-left.was c.from_residual.ensures

pub overflow_sub-result : goal.overflow_sub-result
overflow_sub-result g c =
    let xs = g.P.Printable.pieces c.args.page.now in
    let e = ap (λ (p : Printed). p.room) c.print.ensures.printed ∙ room_print _ xs _ in
    room_left c.args.out.now xs e c.in_ok-left.was

pub returns : goal.returns
returns g c =
    let xs = g.P.Printable.pieces c.args.page.now in
    let e = ap (λ (p : Printed). p.room) c.print.ensures.printed ∙ room_print _ xs _ in
    whole_written c.args.out.now xs e c.in_ok-left.was _ (search rules) c.print-2.ensures.printed
