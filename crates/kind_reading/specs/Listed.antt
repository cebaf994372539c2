-- Document 01, sorted.rs: "Live and deleted ids per kind in OSM order, read by number. .. A record read is a view of the arena from its offset to that record's end";
-- parse.rs: what is known of an id, for the thin readers.
use Rattle.std.specs.Prelude.{ℕ, zero, suc, ◌-◌, Bool, not, cond, List, [], ◌∷◌, ℤ, take, Err, None, Ok, Option, Result, Some}
use Rattle.base.specs.Bytes.{Bytes}
use Rattle.kind.specs.declared.Kind.{Kind}
use Rattle.osm_id.specs.Order.{rank}
use Rattle.little.specs.declared.Span.{Span}
use Rattle.refusal.specs.declared.Refusal.{Refusal}
use Rattle.refusal.specs.declared.Refusal.TheVariants as R
use Rattle.compact_legal.specs.Judge.{record_end}
use Rattle.kind_table.specs.Words.{row_at, rows_of, held, lookup}
use Rattle.kind_table.specs.declared.Row.{Row}
use Rattle.kind_store.specs.KindStore.{is_live}
use Rattle.kind_reading.specs.declared.Side.{Side}
use Rattle.kind_reading.specs.declared.Side.TheVariants.{Live, Deleted}
use Rattle.kind_reading.specs.declared.Standing.{Standing}
use Rattle.kind_reading.specs.declared.Standing.TheVariants as S

-- ---- by number

-- the rows that are read: those counted, as far as the words go
abbrev pub rows_read : List ℕ → ℕ → List Row
rows_read table ids = rows_of table (held table ids)

-- a row is on the live list or on the deleted list
abbrev pub is_on : Side → Row → Bool
is_on Live r = is_live r.offset
is_on Deleted r = not (is_live r.offset)

-- the live rows, or the deleted rows, in the table's order, which is OSM order
unfoldable pub rows_on : Side → List Row → List Row
rows_on side [] = []
rows_on side (r ∷ rs) = cond (is_on side r) (r ∷ rows_on side rs) (rows_on side rs)

-- "21 number not below its list's count"
unfoldable pub nth : List Row → ℕ → Option Row
nth [] n = None
nth (r ∷ rs) zero = Some r
nth (r ∷ rs) (suc n) = nth rs n

-- ---- by id

-- live with the offset of its record, or deleted, or not known
unfoldable pub row_standing : Row → Standing
row_standing r = cond (is_live r.offset) (S.Live r.offset) S.Deleted

abbrev pub standing_at : List ℕ → Result ℕ ℕ → Standing
standing_at table (Ok i) = row_standing (row_at table i)
standing_at table (Err p) = S.Unknown

unfoldable pub standing_of : List ℕ → ℕ → ℤ → Standing
standing_of table ids id = standing_at table (lookup table ids (rank id))

-- ---- a record's view: from its offset to its end

-- where a record or a text lies, that there is none, or a refusal
abbrev pub View : Type 0
View = Result (Option Span) Refusal

abbrev pub view_to : ℕ → Option ℕ → View
view_to at (Some e) = Ok (Some (record { start = at; len = e - at }))
view_to at None = Err R.Unsound

unfoldable pub view_at : ℕ → Kind → Bytes → ℕ → ℕ → View
view_at strings k arena used at = view_to at (record_end strings k (take used arena) at)
