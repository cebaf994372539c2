-- The key, what the row was left with, and the line feed.
use borrow.Author.Rules.{rules}
use mir.Facts.{to_z-of_z}
use mir.Syntax.{w64}
use mir.Val.{SFits}
use Rattle.interner.specs.Lent.{store_seen}
use Rattle.line.specs.Decimal.{integer_text}
use Rattle.kind_store.specs.KindStore.{is_live}
use Rattle.kind_store.proofs.Settings.{offset_is}
use Rattle.listing_page.specs.Listing.{kind_field, version_field}
use Rattle.listing_fields.specs.Fields.{text_held}
use Rattle.listing_rows.specs.Lines.{sign_of, last_at, row_fields_at}
use Rattle.listing_rows.proofs.Walks.{line_printed}
use Rattle.listing_rows.proofs.KindLines.put_line.Goals as goal

pub returns : goal.returns
unfolding row_fields_at
returns c =
    let a = c.args in
    let k = a.self.now.storage in
    let f : SFits w64 c.osm_id_of_rank.result = search rules in
    rw (← c.osm_id_of_rank.ensures, ← c.row_version.ensures)
    (line_printed (kind_field k.kind) (integer_text c.osm_id_of_rank.result) (sign_of (is_live a.row.offset)) (version_field c.row_version.result)
    (last_at (text_held (store_seen a.self.now.strings)) k.kind k.arena.now a.row.offset)
    (rw (to_z-of_z f, c.is_some.ensures, c.record_offset.ensures, offset_is a.row.offset) at c.put_key.ensures) c.put_last.ensures c.put_bytes.ensures)
