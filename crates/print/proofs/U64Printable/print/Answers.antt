-- The rest from its place on is lent to the writer of numbers.
use mathlib.Core.Path.{refl}
use Rattle.line.specs.Decimal.{number_text}
use Rattle.print.proofs.Pieces.{number_over, put_there, put_nowhere}
use Rattle.print.proofs.U64Printable.print.Goals as goal

pub returns-in-Some : goal.returns-in-Some
returns-in-Some c =
    let t = c.take_room in
    let x = number_text c.args.self.now in
    let n = c.number_length-n.ensures in
    put_there x t.ensures.same (rw n at t.ensures.taken) c.in-Some.is refl refl refl
    (number_over t.new.self.out.now x _ _ (rw n at c.in-Some.ensures.fits) (c.put_measured.ensures n))

pub returns-in_default : goal.returns-in_default
returns-in_default c =
    put_nowhere (number_text c.args.self.now) c.take_room.ensures.same (rw c.number_length-n.ensures at c.take_room.ensures.taken) c.in_default.is
