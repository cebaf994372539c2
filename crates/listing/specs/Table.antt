-- Document 01, "The listing": "Kinds n, w, r in that order, ids in OSM order, live and deleted merged." An overlay as the page's table: a row for each known id.
use Rattle.std.specs.Prelude.{ℕ, ◌≡◌, Bool, true, cond, ◌++◌, map, ltb, None, Option, Some}
use Rattle.base.specs.Bytes.{Bytes, all}
use Rattle.kind.specs.declared.Kind.{Kind}
use Rattle.kind.specs.declared.Kind.TheVariants.{Node, Way, Relation}
use Rattle.osm_id.specs.Order.{id_of}
use Rattle.interner.specs.Texts.{text_of}
use Rattle.interner.specs.Sound.{texts_of}
use Rattle.model.specs.Record.{Record}
use Rattle.model.specs.Act.{Left, gone, live}
use Rattle.model.specs.Swap.{swap_record}
use Rattle.kind_table.specs.declared.Row as table
use Rattle.kind_store.specs.KindStore.{KindStore, is_live, known_version}
use Rattle.kind_store.specs.WellFormed.{rows_in}
use Rattle.overlay.specs.Overlay.{Overlay, kind_store_of}
use Rattle.listing_page.specs.Summary.{PageRow, Table}
use Rattle.listing.specs.Known.{record_in}

-- live with a record, its texts as texts; an offset at which no record starts is unsound
abbrev pub left_with : (ℕ → Bytes) → Option (Record ℕ) → Left Bytes
left_with f None = gone
left_with f (Some r) = live (swap_record f r)

-- "`+` live or `-` deleted": the record that starts at the row's offset, or none
unfoldable pub left_at : Kind → KindStore → (ℕ → Bytes) → table.Row → Left Bytes
left_at k s f r = cond (is_live r.offset) (left_with f (record_in k s r.offset)) gone

-- "kind; id; `+` live or `-` deleted; known version or `?`"
abbrev pub row_of : Kind → KindStore → (ℕ → Bytes) → table.Row → PageRow
row_of k s f r = record { key = record { kind = k; id = id_of r.rank }; high = known_version k s (id_of r.rank); last = left_at k s f r }

-- the known ids of a kind, in the table's order, which is OSM order
unfoldable pub kind_table : Kind → KindStore → (ℕ → Bytes) → Table
kind_table k s f = map (row_of k s f) (rows_in s)

abbrev pub part_of : Kind → Overlay → Table
part_of k o = kind_table k (kind_store_of k o) (text_of (texts_of o.texts))

-- "Kinds n, w, r in that order"
unfoldable pub table_of : Overlay → Table
table_of o = part_of Node o ++ part_of Way o ++ part_of Relation o

-- the rank of each known id is a word of 64 bits, as each word of a lent table is
unfoldable pub is_rank : table.Row → Bool
is_rank r = ltb r.rank 18446744073709551616

pub record Ranked (o : Overlay) : Type 0 where
  pub rows : (k : Kind) → all is_rank (rows_in (kind_store_of k o)) ≡ true
