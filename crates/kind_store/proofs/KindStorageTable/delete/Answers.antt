-- The act is refused by the seat of its id, or the row is set where the seat says.
use mathlib.Core.Path.{◌≡◌}
use borrow.Author.Rules.{rules}
use mir.Val.{to_z}
use mir.Syntax.{w64}
use Rattle.std.specs.Prelude.{Err, Ok}
use Rattle.kind_store.specs.Seats.{setting_of}
use Rattle.kind_store.specs.Lent.{kind_rows_held}
use Rattle.kind_store.specs.Seats.{seated}
use Rattle.kind_store.proofs.Seats.{delete_refused, delete_done}
use Rattle.kind_store.proofs.KindStorageTable.delete.Goals as goal

pub returns-in_err-seat-clause-done : goal.returns-in_err-seat-clause-done
returns-in_err-seat-clause-done c =
    let s = c.args.self.now in
    let r = c.in_err-seat.field-0.0 in
    let same : c.from_residual.result ≡ Err r = search rules in
    let e : Err r ≡ seated s.kind (setting_of c.args.regression) (kind_rows_held s) (to_z w64 c.args.id) c.args.claim =
    rw (c.storage.ensures.0, c.storage.ensures.1) at c.in_err-seat.ensures in
    rw same (delete_refused s.kind (kind_rows_held s) (to_z w64 c.args.id) (setting_of c.args.regression) c.args.claim e)

pub returns-clause-done : goal.returns-clause-done
returns-clause-done c =
    let s = c.args.self.now in
    let e : Ok c.in_ok-seat.seat ≡ seated s.kind (setting_of c.args.regression) (kind_rows_held s) (to_z w64 c.args.id) c.args.claim =
    rw (c.storage.ensures.0, c.storage.ensures.1) at c.in_ok-seat.ensures in
    delete_done s.kind (kind_rows_held s) (to_z w64 c.args.id) (setting_of c.args.regression) c.args.claim e {w = c.put_row.new.self.words.now} (search rules)
    c.rank_of_bits.ensures c.higher_of.ensures c.version_word.ensures c.put_row.ensures.done
