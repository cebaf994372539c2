-- Document 01, "The listing": the lines of one kind's rows, as pieces, in any words and bytes. Of a sound kind they are the page's lines (crate `listing`).
use Rattle.std.specs.Prelude.{ℕ, Bool, true, false, cond, List, [], ◌∷◌, ◌++◌, take, drop}
use Rattle.base.specs.Ascii.{ascii}
use Rattle.base.specs.Bytes.{Bytes}
use Rattle.line.specs.Decimal.{integer_text}
use Rattle.kind.specs.declared.Kind.{Kind}
use Rattle.osm_id.specs.Order.{id_of}
use Rattle.kind_table.specs.Words.{rows_of, held}
use Rattle.kind_table.specs.declared.Row.{Row}
use Rattle.kind_store.specs.KindStore.{KindStore, is_live, known_of}
use Rattle.listing_page.specs.Listing.{kind_field, version_field}
use Rattle.print.specs.Print.{line_pieces}
use Rattle.listing_fields.specs.Fields.{record_fields_at}

-- "`+` live or `-` deleted"
abbrev pub sign_of : Bool → Bytes
sign_of true = ascii "+"
sign_of false = ascii "-"

-- "A deleted line ends there. A live one goes on": the record at its offset in the arena's used bytes
abbrev pub last_at : (ℕ → Bytes) → Kind → Bytes → ℕ → List Bytes
last_at f k arena offset = cond (is_live offset) (record_fields_at f k (drop offset arena)) []

-- a row's line; its known version is the one that the row itself says
unfoldable pub row_fields_at : (ℕ → Bytes) → Kind → Bytes → Row → List Bytes
row_fields_at f k arena r =
    kind_field k ∷ integer_text (id_of r.rank) ∷ sign_of (is_live r.offset) ∷ version_field (known_of k arena r) ∷ last_at f k arena r.offset

unfoldable pub row_pieces : (ℕ → Bytes) → Kind → Bytes → List Row → List Bytes
row_pieces f k arena [] = []
row_pieces f k arena (r ∷ rs) = line_pieces (row_fields_at f k arena r) ++ row_pieces f k arena rs

-- the rows of a kind: those counted, as far as the words go; of its arena the used bytes
abbrev pub kind_pieces : (ℕ → Bytes) → Kind → KindStore → List Bytes
kind_pieces f k s = row_pieces f k (take s.used s.arena) (rows_of s.table (held s.table s.ids))
