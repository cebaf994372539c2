-- The answer and the place of `sorted::Seek::find`, as C reads them.
use mathlib.Core.Path.{◌∙◌, ap}
use mir.Facts.{to_z-of_z}
use Rattle.sorted.specs.Lookup.{Found}
use Rattle.c_replies.specs.Lookups.{found_cursor}
use Rattle.torvaskin.proofs.lookups.tvk_seek_find.Goals as goal

pub returns : goal.returns
returns c =
    c.cursor_reply.ensures
    ∙ ap (λ (f : Found). found_cursor f) (rw (c.place_of.ensures, to_z-of_z c.ranges.id) at c.find-answer.ensures)
