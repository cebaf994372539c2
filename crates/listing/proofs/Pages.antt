-- In sound storage the printed pieces are together the listing of the overlay's table.
use Rattle.std.specs.Prelude.{Some}
use Prim.Native.Nat.{ℕ, suc, ◌<◌}
use mathlib.Core.Path.{◌≡◌, refl, sym}
use mathlib.Core.Bool.{true}
use mathlib.Core.List.{List, [], ◌∷◌, ◌++◌, append_assoc, map}
use native.Mathlib.Omega.{arith}
use lib.ListN.{length, take, drop, get_or}
use Rattle.base.specs.Bytes.{Bytes}
use Rattle.base.proofs.Split.{by_bool}
use Rattle.kind.specs.declared.Kind.{Kind}
use Rattle.kind.specs.declared.Kind.TheVariants.{Node, Way, Relation}
use Rattle.line.specs.Line.{line}
use Rattle.interner.specs.Texts.{text_of}
use Rattle.interner.specs.Sound.{texts_of}
use Rattle.interner.proofs.Interns as Interns
use Rattle.kind_table.specs.Words.{row_at}
use Rattle.kind_table.specs.Rows.{find}
use Rattle.kind_table.specs.declared.Row as table
use Rattle.kind_table.proofs.Maps.{find_passes, find_row}
use Rattle.kind_table.proofs.Tables.{sound_fits, sound_rises, held_all}
use Rattle.kind_store.specs.KindStore.{KindStore, is_live}
use Rattle.kind_store.specs.WellFormed.{rows_in}
use Rattle.kind_sound.specs.Sound.{SoundKindStore, sound_row}
use Rattle.listing_page.specs.Summary.{Table}
use Rattle.listing_page.specs.Listing.{kind_field, row_fields, listing}
use Rattle.print.specs.Print.{joined_pieces, line_pieces}
use Rattle.print.proofs.Prints.{joined_append, line_pieces_lem}
use Rattle.listing_fields.proofs.Records.{held_text_lem, fields_are}
use Rattle.overlay.specs.Overlay.{Overlay}
use Rattle.overlay.specs.Given.{InBytes}
use Rattle.overlay.specs.Sound.{Sound, is_sound}
use Rattle.overlay.proofs.Decides.{decides}
use Rattle.listing.specs.Table.{left_at, row_of, kind_table, table_of}
use Rattle.listing_rows.specs.Lines.{row_fields_at, row_pieces, kind_pieces}
use Rattle.listing_fields.specs.Fields.{text_held}
use Rattle.listing.specs.Pieces.{pieces_of}
use Rattle.listing.specs.Call.{page_of}
use Rattle.listing.proofs.Rows.{row_starts, record_read, record_found, record_kind, row_version}

listing_append : (rs ss : Table) → listing (rs ++ ss) ≡ listing rs ++ listing ss
unfolding listing
listing_append [] ss = refl
listing_append (r ∷ rs) ss = rw (listing_append rs ss) (sym (append_assoc (line (row_fields r)) (listing rs) (listing ss)))

module _ (strings : ℕ) (k : Kind) (s : KindStore) (w : SoundKindStore strings k s) (f : ℕ → Bytes) where
  -- the used bytes
  abbrev used : Bytes
  used = take s.used s.arena

  -- the fields of a row that its rank finds
  row_fields_lem : (r : table.Row) → find r.rank (rows_in s) ≡ Some r → row_fields_at f k used r ≡ row_fields (row_of k s f r)
  unfolding row_fields_at row_fields left_at
  row_fields_lem r e =
      let h = find_passes (sound_row w.whole.kept) r.rank (rows_in s) r w.rows e in
      rw (row_version strings k s w r e h)
      (by_bool (is_live r.offset)
      (λ l. let x = row_starts w.whole.kept r h l in
      let q = fields_are f x.0.id x.0.held (drop r.offset used) (record_found strings k s w r.offset x.0 x.1.0) in
      rw (l, record_read strings k s w r.offset x.0 x.1.0, rw (record_kind strings k s w r.offset x.0 x.1.0) at q))
      (λ l. rw l))

  -- its line
  row_line : (r : table.Row) → joined_pieces (line_pieces (row_fields (row_of k s f r))) ≡ line (row_fields (row_of k s f r))
  unfolding row_fields
  row_line r = line_pieces_lem (kind_field k) _

  rows_listed : (rs : List table.Row) (d : table.Row) → ((i : ℕ) → i < length rs → row_fields_at f k used (get_or rs i d) ≡ row_fields (row_of k s f (get_or rs i d)))
      → joined_pieces (row_pieces f k used rs) ≡ listing (map (row_of k s f) rs)
  unfolding row_pieces listing joined_pieces
  rows_listed [] d h = refl
  rows_listed (r ∷ rs) d h =
      rw (joined_append (line_pieces (row_fields_at f k used r)) (row_pieces f k used rs), h 0 (omega arith), row_line r, rows_listed rs d (λ i l. h (suc i) (omega arith)))

  -- the rows of a kind
  pub kind_listed : joined_pieces (kind_pieces f k s) ≡ listing (kind_table k s f)
  unfolding kind_table
  kind_listed =
      let d = row_at s.table 0 in
      rw (held_all s.table s.ids (sound_fits s.table s.ids w.order))
      (rows_listed (rows_in s) d (λ i l. row_fields_lem (get_or (rows_in s) i d) (find_row (rows_in s) (sound_rises s.table s.ids w.order) i d l)))

-- a handle's text is the held one
texts_held : (o : Overlay) → Sound o → text_held o.texts ≡ text_of (texts_of o.texts)
texts_held o w = λ i h. held_text_lem o.texts (Interns.sound_parts o.texts w.strings) h i

pub page_sound : (o : Overlay) → Sound o → joined_pieces (pieces_of o) ≡ page_of o
unfolding pieces_of table_of
page_sound o w =
    let t = text_of (texts_of o.texts) in
    let n = o.texts.strings in
    rw (
      texts_held o w,
      joined_append (kind_pieces t Node o.nodes ++ kind_pieces t Way o.ways) (kind_pieces t Relation o.relations),
      joined_append (kind_pieces t Node o.nodes) (kind_pieces t Way o.ways),
      kind_listed n Node o.nodes (w.kind_stores Node) t,
      kind_listed n Way o.ways (w.kind_stores Way) t,
      kind_listed n Relation o.relations (w.kind_stores Relation) t,
      listing_append (kind_table Node o.nodes t ++ kind_table Way o.ways t) (kind_table Relation o.relations t),
      listing_append (kind_table Node o.nodes t) (kind_table Way o.ways t),
    )

-- the same, by the test
pub page_pieces : (o : Overlay) → InBytes o → is_sound o ≡ true → joined_pieces (pieces_of o) ≡ page_of o
page_pieces o b t = page_sound o ((decides o b).0 t)
