-- The rest from its place on is lent to the writer of integers.
use mathlib.Core.Path.{refl, ap}
use mir.Syntax.{w64}
use mir.Val.{to_z}
use Rattle.line.specs.Decimal.{integer_text}
use Rattle.decimal.specs.Put.{Wrote as Put}
use Rattle.print.proofs.Pieces.{number_over, put_there, put_nowhere}
use Rattle.print.proofs.IntegerPrintable.print.Goals as goal

pub returns-in-Some : goal.returns-in-Some
returns-in-Some c =
    let t = c.take_room in
    let x = integer_text (to_z w64 c.args.self.now.0) in
    let n = c.integer_length.ensures in
    put_there x t.ensures.same (rw n at t.ensures.taken) c.in-Some.is refl refl refl
    (number_over t.new.self.out.now x _ _ (rw n at c.in-Some.ensures.fits) (ap (λ (u : Put). u.bytes) c.put_integer.ensures))

pub returns-in_default : goal.returns-in_default
returns-in_default c =
    put_nowhere (integer_text (to_z w64 c.args.self.now.0)) c.take_room.ensures.same (rw c.integer_length.ensures at c.take_room.ensures.taken) c.in_default.is
