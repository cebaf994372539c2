-- All ids of a list of the kind with their known versions; or 22, else 17.
use Rattle.torvaskin.specs.Readings.{ids_reply}
use Rattle.torvaskin.proofs.OverlayReplies.{kind_told, kind_untold}
use Rattle.torvaskin.proofs.readings.ids_number.Goals as goal

pub returns-in-Ok : goal.returns-in-Ok
unfolding ids_reply
returns-in-Ok c =
    rw (kind_told _ _ (rw c.in-Ok.is at c.named_kind.ensures), c.from.ensures, ← c.all_ids.ensures)

pub returns-in-Err : goal.returns-in-Err
unfolding ids_reply
returns-in-Err c =
    let u = kind_untold _ _ (rw c.in-Err.is at c.named_kind.ensures) in
    rw (u.0, c.from-in-Err.ensures, u.1)
