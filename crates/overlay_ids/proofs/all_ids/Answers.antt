-- The soundness test, then the list of one kind.
use Rattle.overlay.specs.Lent.{overlay_seen}
use Rattle.overlay.proofs.Checked.{checked_sound, checked_unsound}
use Rattle.overlay_reading.specs.Reading.{count_on}
use Rattle.overlay_ids.specs.Bulk.{all_ids_on}
use Rattle.overlay_ids.proofs.Known.{order_sound}
use Rattle.overlay_ids.proofs.Numbers.{rows_numbers}
use Rattle.overlay_ids.proofs.all_ids.Goals as goal

pub returns-in_err-check_sound : goal.returns-in_err-check_sound
unfolding all_ids_on count_on
returns-in_err-check_sound c =
    let u = checked_unsound (overlay_seen c.args.storage.now) c.in_err-check_sound.ensures c.from_residual.ensures in
    rw (u.1, u.0)

pub put_kind-requires : goal.put_kind-requires
put_kind-requires c =
    let k = c.args in
    let o = overlay_seen k.storage.now in
    rw (← c.kind_storage.ensures.seen) at (order_sound o k.kind (checked_sound o c.in_ok-check_sound.ensures))

pub returns : goal.returns
returns c =
    let k = c.args in
    let o = overlay_seen k.storage.now in
    rw (← rows_numbers k.kind k.side o (checked_sound o c.in_ok-check_sound.ensures) k.ids.now k.versions.now, ← c.kind_storage.ensures.seen, ← c.kind_storage.ensures.kind) c.put_kind.ensures
