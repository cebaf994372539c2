-- Metadata, then place or refs or members, then tags.
use mathlib.Core.Path.{refl}
use Rattle.interner.specs.Lent.{store_seen}
use Rattle.listing_fields.specs.Fields.{text_held, tag_fields_at}
use Rattle.listing_fields.proofs.Walks.{fields_printed}
use Rattle.listing_fields.proofs.HeldRecord.put_fields.Goals as goal

pub returns : goal.returns
unfolding tag_fields_at
returns g c =
    let a = c.args in
    let h = c.read-head.ensures.says in
    fields_printed (text_held (store_seen a.self.now.strings)) g.H.RecordHead.kind a.self.now.bytes.now c.read_meta.result _ _
    (rw (c.LEN.ensures, g.met.H.RecordHead.is_long) at c.read_meta.ensures) refl refl
    c.put_meta.ensures (rw h at c.put_body.ensures) (rw (c.tags_at.ensures, c.tag_count.ensures, h) at c.put_tags.ensures)
