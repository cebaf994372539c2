-- The tags begin behind the head and what it counts; of a head that is cut short, past the bytes.
use mathlib.Core.Path.{sym, ◌∙◌}
use Rattle.compact.proofs.Tags.{place_read, place_refused}
use Rattle.compact.proofs.first_tag.Goals as goal

pub returns-in-Ok : goal.returns-in-Ok
returns-in-Ok g c =
    let h = g.H.RecordHead in
    rw (c.tags_at.ensures, c.tag_count.ensures)
    (place_read h.kind c.args.bytes.now h.saying c.in-Ok.head (h.says c.in-Ok.head) (sym c.in-Ok.is ∙ c.try_read.ensures.read) c.in-Ok.ensures.says)

pub returns-in-Err : goal.returns-in-Err
returns-in-Err g c =
    let h = g.H.RecordHead in
    place_refused h.kind c.args.bytes.now h.saying _ (sym c.in-Err.is ∙ c.try_read.ensures.read)
