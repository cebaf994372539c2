-- The part of `overlay_reading::text`.
use Rattle.torvaskin.proofs.readings.tvk_text.Goals as goal

pub returns : goal.returns
returns c =
    rw (c.from.ensures, c.text.ensures)
