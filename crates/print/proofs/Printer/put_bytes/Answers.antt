-- `put_bytes` lends the rest from the place of the piece on.
use mathlib.Core.Path.{refl}
use native.Mathlib.Omega.{arith}
use Rattle.little.proofs.Overs.{over_lent_start}
use Rattle.print.proofs.Pieces.{put_there, put_nowhere}
use Rattle.print.proofs.Printer.put_bytes.Goals as goal

pub returns-in-Some : goal.returns-in-Some
returns-in-Some c =
    let t = c.take_room in
    put_there c.args.piece.now t.ensures.same t.ensures.taken c.in-Some.is refl refl refl
    (over_lent_start t.new.self.out.now _ _ _ (omega (arith, c.in-Some.ensures.fits)) c.copy_in.ensures)

pub returns-in_default : goal.returns-in_default
returns-in_default c = put_nowhere c.args.piece.now c.take_room.ensures.same c.take_room.ensures.taken c.in_default.is
