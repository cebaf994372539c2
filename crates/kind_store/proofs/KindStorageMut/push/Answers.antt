-- The act is refused by the seat of its id, or by a full arena, or the row is set where the seat says.
use mathlib.Core.Path.{◌≡◌}
use borrow.Author.Rules.{rules}
use mir.Val.{to_z}
use mir.Syntax.{w64}
use Rattle.std.specs.Prelude.{Err, None, Ok, Some}
use Rattle.refusal.specs.declared.Refusal.TheVariants.{ArenaFull}
use Rattle.model.specs.Record.{claim_of}
use Rattle.compact.specs.Held.{meta_of}
use Rattle.kind_store.specs.Seats.{setting_of}
use Rattle.kind_store.specs.Lent.{kind_held}
use Rattle.kind_store.specs.Seats.{seated}
use Rattle.kind_store.proofs.Seats.{push_refused, push_ends, push_done}
use Rattle.kind_store.proofs.KindStorageMut.push.Goals as goal

pub returns-in_err-seat-clause-done : goal.returns-in_err-seat-clause-done
returns-in_err-seat-clause-done c =
    let a = c.args in
    let s = a.self.now in
    let p = a.push.now in
    let r = c.in_err-seat.field-0.0 in
    let same : c.from_residual.result ≡ Err r = search rules in
    let e : Err r ≡ seated s.kind (setting_of c.args.regression) (kind_held s) (to_z w64 p.head.id) (claim_of (meta_of p.meta)) =
    rw (c.storage.ensures.0, c.storage.ensures.1, c.claim-claim.ensures) at c.in_err-seat.ensures in
    rw same (push_refused s.kind (kind_held s) (to_z w64 p.head.id) (setting_of c.args.regression) (claim_of (meta_of p.meta)) e _)

pub returns-in_err-end-clause-done : goal.returns-in_err-end-clause-done
returns-in_err-end-clause-done c =
    let a = c.args in
    let s = a.self.now in
    let p = a.push.now in
    let same : c.from_residual-in_err-end.result ≡ Err ArenaFull = search rules in
    let full : c.append_record.result ≡ None = search rules in
    let e : Ok c.in_ok-seat.seat ≡ seated s.kind (setting_of c.args.regression) (kind_held s) (to_z w64 p.head.id) (claim_of (meta_of p.meta)) =
    rw (c.storage.ensures.0, c.storage.ensures.1, c.claim-claim.ensures) at c.in_ok-seat.ensures in
    rw same (push_ends s.kind (kind_held s) (to_z w64 p.head.id) (setting_of c.args.regression) (claim_of (meta_of p.meta)) e _ (rw full at c.append_record.ensures))

pub returns-clause-done : goal.returns-clause-done
returns-clause-done c =
    let a = c.args in
    let s = a.self.now in
    let p = a.push.now in
    let taken : c.append_record.result ≡ Some c.in_ok-end.end = search rules in
    let e : Ok c.in_ok-seat.seat ≡ seated s.kind (setting_of c.args.regression) (kind_held s) (to_z w64 p.head.id) (claim_of (meta_of p.meta)) =
    rw (c.storage.ensures.0, c.storage.ensures.1, c.claim-claim.ensures) at c.in_ok-seat.ensures in
    push_done s.kind (kind_held s) (to_z w64 p.head.id) (setting_of c.args.regression) (claim_of (meta_of p.meta)) e _ {w = c.put_row.new.self.words.now} (search rules)
    (rw taken at c.append_record.ensures) c.rank_of_bits.ensures
    (rw c.claim-claim.ensures at c.floor_after.ensures) c.put_row.ensures.done
