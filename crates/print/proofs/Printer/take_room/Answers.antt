-- `take_room` asks for the room before the piece and behind it, and whether the piece lies within the output.
use Rattle.std.specs.Prelude.{None, Some}
use Prim.Native.Nat.{◌+◌, ◌-◌, ◌≤◌, ◌<◌}
use mathlib.Core.Path.{◌≡◌, refl}
use native.Mathlib.Omega.{arith}
use lib.ListN.{length}
use Rattle.print.proofs.Prints.{behind_full, behind_fits, behind_past}
use Rattle.print.proofs.Pieces.{place_within, place_past, place_over, place_full}
use Rattle.print.proofs.Printer.take_room.Goals as goal

pub returns-in_err-room-clause-taken : goal.returns-in_err-room-clause-taken
returns-in_err-room-clause-taken c =
    let e : c.args.self.now.room ≡ None = c.in_err-room.was in
    record { out = refl; room = rw (e, behind_full); place = rw (e, place_full) c.from_residual.ensures }

pub returns-in_err-self-clause-taken : goal.returns-in_err-self-clause-taken
returns-in_err-self-clause-taken c =
    let e : c.args.self.now.room ≡ Some c.in_ok-room.room = c.in_ok-room.was in
    let f : c.checked_sub-self.result ≡ None = c.in_err-self.was in
    let s = rw f at c.checked_sub-self.ensures in
    let h : c.in_ok-room.room < c.args.n = omega (arith, s) in
    record { out = refl; room = rw (e, f, behind_past c.in_ok-room.room c.args.n h); place = rw (e, place_over c.args.self.now.cap c.args.n (length c.args.self.now.out.now) c.in_ok-room.room h) c.from_residual-in_err-self.ensures }

pub returns-in_err-end-clause-taken : goal.returns-in_err-end-clause-taken
returns-in_err-end-clause-taken c =
    let r = c.in_ok-room.room in
    let a = c.args.self.now in
    let n = c.args.n in
    let e : a.room ≡ Some r = c.in_ok-room.was in
    let f : c.checked_sub-self.result ≡ Some c.in_ok-self.field-0 = c.in_ok-self.was in
    let s = rw f at c.checked_sub-self.ensures in
    let l : length a.out.now < a.cap - r + n = omega (arith, c.in_err-end.ensures, c.saturating_sub-at.ensures) in
    record { out = refl; room = rw (e, f, behind_fits r n s.0, s.1); place = rw (e, place_past a.cap n (length a.out.now) r s.0 l) c.from_residual-in_err-end.ensures }

pub returns-then-end-self-clause-taken : goal.returns-then-end-self-clause-taken
returns-then-end-self-clause-taken c =
    let r = c.in_ok-room.room in
    let a = c.args.self.now in
    let n = c.args.n in
    let e : a.room ≡ Some r = c.in_ok-room.was in
    let f : c.checked_sub-self.result ≡ Some c.in_ok-self.field-0 = c.in_ok-self.was in
    let s = rw f at c.checked_sub-self.ensures in
    let l : a.cap - r + n ≤ length a.out.now = omega (arith, c.in_ok-end.ensures, c.saturating_sub-at.ensures) in
    record { out = refl; room = rw (e, f, behind_fits r n s.0, s.1); place = rw (e, place_within a.cap n (length a.out.now) r s.0 l, c.saturating_sub-at.ensures) }

pub returns-else-end-self-clause-taken : goal.returns-else-end-self-clause-taken
returns-else-end-self-clause-taken c =
    let r = c.in_ok-room.room in
    let a = c.args.self.now in
    let n = c.args.n in
    let e : a.room ≡ Some r = c.in_ok-room.was in
    let f : c.checked_sub-self.result ≡ Some c.in_ok-self.field-0 = c.in_ok-self.was in
    let s = rw f at c.checked_sub-self.ensures in
    let l : length a.out.now < a.cap - r + n = omega (arith, c.in_ok-end.ensures, c.saturating_sub-at.ensures) in
    record { out = refl; room = rw (e, f, behind_fits r n s.0, s.1); place = rw (e, place_past a.cap n (length a.out.now) r s.0 l) }
