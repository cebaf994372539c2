-- The number of `overlay_reading::is_empty`.
use Rattle.torvaskin.proofs.readings.tvk_is_empty.Goals as goal

pub returns : goal.returns
returns c =
    rw (c.from.ensures, c.truth_read.ensures, c.is_empty.ensures)
