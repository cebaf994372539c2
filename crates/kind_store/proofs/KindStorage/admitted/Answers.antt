-- 12 is answered with the known version, 14 where the seat has no room.
use mathlib.Core.Path.{sym, ◌∙◌}
use mir.Val.{to_z}
use mir.Syntax.{w32, w64}
use Rattle.signed.proofs.Bits.{held}
use Rattle.kind_store.specs.Seats.{setting_of}
use Rattle.kind_store.specs.Lent.{kind_seen}
use Rattle.kind_store.proofs.Seats.{seat_taken, seat_full, seat_below}
use borrow.Author.Rules.{rules}
use Rattle.kind_store.proofs.KindStorage.admitted.Goals as goal

pub returns-then-has_room : goal.returns-then-has_room
returns-then-has_room c =
    let s = c.args.self.now in
    seat_taken s.kind (kind_seen s) (to_z w64 c.args.id) (setting_of c.args.regression) c.args.claim c.seat-seat.result c.seat-seat.ensures
    (sym c.check.ensures ∙ c.in_default.is) (sym c.has_room.ensures ∙ c.if-has_room.true)

pub returns-in_default : goal.returns-in_default
returns-in_default c =
    let s = c.args.self.now in
    seat_full s.kind (kind_seen s) (to_z w64 c.args.id) (setting_of c.args.regression) c.args.claim c.seat-seat.result c.seat-seat.ensures
    (sym c.check.ensures ∙ c.in_default.is) (sym c.has_room.ensures ∙ c.if-has_room.false)

pub returns : goal.returns
returns c =
    let s = c.args.self.now in
    rw (held w32 c.in-Err.held (search rules))
    (seat_below s.kind (kind_seen s) (to_z w64 c.args.id) (setting_of c.args.regression) c.args.claim c.seat-seat.result c.seat-seat.ensures (sym c.check.ensures ∙ c.in-Err.is))
