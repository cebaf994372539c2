-- Document 01: what is read of an overlay. "each call but lookups in lists, first: 22 unsound storage"; then "21 number not below its list's count".
-- Ids and records go by number in OSM order; `get`, `has`, `is_deleted`, the counts and `is_empty` are parse.rs's.
use Rattle.kind_table.specs.declared.Row.{Row}
use Rattle.refusal.specs.declared.Refusal.{Refusal}
use Rattle.std.specs.Prelude.{ℕ, Bool, true, false, cond, eqb, ℤ, length, Err, None, Ok, Option, Result, Some}
use Rattle.std.specs.Int.{w64}
use Rattle.std.proofs.Common.{of_z}
use Rattle.base.specs.Bytes.{both}
use Rattle.kind.specs.declared.Kind.{Kind}
use Rattle.osm_id.specs.Order.{id_of}
use Rattle.version_floor.specs.Version.{word_of}
use Rattle.refusal.specs.declared.Refusal.TheVariants as R
use Rattle.interner.specs.Strings.{used_of, span_of}
use Rattle.little.specs.declared.Span.{Span}
use Rattle.kind_store.specs.KindStore.{KindStore, known_version}
use Rattle.kind_reading.specs.Listed.{View, rows_read, rows_on, nth, standing_of, view_at}
use Rattle.kind_reading.specs.declared.Side.{Side}
use Rattle.kind_reading.specs.declared.Side.TheVariants.{Live}
use Rattle.kind_reading.specs.declared.Standing.{Standing}
use Rattle.kind_reading.specs.declared.Standing.TheVariants as S
use Rattle.overlay.specs.Overlay.{Overlay, kind_store_of}
use Rattle.overlay.specs.Sound.{is_sound}

-- 22 first
abbrev pub checked_read : Overlay → Result ℕ Refusal → Result ℕ Refusal
checked_read o r = cond (is_sound o) r (Err R.Unsound)

abbrev pub checked_view : Overlay → View → View
checked_view o v = cond (is_sound o) v (Err R.Unsound)

-- yes is 1, no is 0
abbrev pub yes : Bool → Result ℕ Refusal
yes true = Ok 1
yes false = Ok 0

-- yes and no as that number, and a version as its word
abbrev pub in_number : Result Bool Refusal → Result ℕ Refusal
in_number (Ok b) = yes b
in_number (Err r) = Err r

abbrev pub in_word : Result (Option ℤ) Refusal → Result ℕ Refusal
in_word (Ok v) = Ok (word_of v)
in_word (Err r) = Err r

-- ---- counts

abbrev pub count_in : Side → KindStore → ℕ
count_in side s = length (rows_on side (rows_read s.table s.ids))

unfoldable pub count_on : Kind → Side → Overlay → Result ℕ Refusal
count_on k side o = checked_read o (Ok (count_in side (kind_store_of k o)))

-- "contains no data at all": no id of any kind, live or deleted
unfoldable pub no_ids : Overlay → Bool
no_ids o = both (eqb o.nodes.ids 0) (both (eqb o.ways.ids 0) (eqb o.relations.ids 0))

unfoldable pub is_empty_on : Overlay → Result ℕ Refusal
is_empty_on o = checked_read o (yes (no_ids o))

-- ---- ids and records by number

-- the bits of a row's id
abbrev pub id_read : Option Row → Result ℕ Refusal
id_read (Some r) = Ok (of_z w64 (id_of r.rank))
id_read None = Err R.NoSuchNumber

-- the row of a number
abbrev pub row_in : Side → ℕ → KindStore → Option Row
row_in side n s = nth (rows_on side (rows_read s.table s.ids)) n

unfoldable pub id_on : Kind → Side → ℕ → Overlay → Result ℕ Refusal
id_on k side n o = checked_read o (id_read (row_in side n (kind_store_of k o)))

abbrev pub view_in : ℕ → Kind → KindStore → ℕ → View
view_in strings k s at = view_at strings k s.arena s.used at

abbrev pub nth_view : ℕ → Kind → KindStore → Option Row → View
nth_view strings k s (Some r) = view_in strings k s r.offset
nth_view strings k s None = Err R.NoSuchNumber

-- the record of the n-th live id
unfoldable pub record_on : Kind → ℕ → Overlay → View
record_on k n o = checked_view o (nth_view o.texts.strings k (kind_store_of k o) (row_in Live n (kind_store_of k o)))

-- ---- by id

abbrev pub standing_in : KindStore → ℤ → Standing
standing_in s id = standing_of s.table s.ids id

abbrev pub live_view : ℕ → Kind → KindStore → Standing → View
live_view strings k s (S.Live at) = view_in strings k s at
live_view strings k s S.Deleted = Ok None
live_view strings k s S.Unknown = Ok None

-- what is known of an id
unfoldable pub standing_on : Kind → ℤ → Overlay → Result Standing Refusal
standing_on k id o = cond (is_sound o) (Ok (standing_in (kind_store_of k o) id)) (Err R.Unsound)

-- the record of an id, if it is live
unfoldable pub get_on : Kind → ℤ → Overlay → View
get_on k id o = checked_view o (live_view o.texts.strings k (kind_store_of k o) (standing_in (kind_store_of k o) id))

abbrev pub is_live_now : Standing → Bool
is_live_now (S.Live at) = true
is_live_now S.Deleted = false
is_live_now S.Unknown = false

abbrev pub is_deleted_now : Standing → Bool
is_deleted_now (S.Live at) = false
is_deleted_now S.Deleted = true
is_deleted_now S.Unknown = false

unfoldable pub has_on : Kind → ℤ → Overlay → Result ℕ Refusal
has_on k id o = checked_read o (yes (is_live_now (standing_in (kind_store_of k o) id)))

unfoldable pub is_deleted_on : Kind → ℤ → Overlay → Result ℕ Refusal
is_deleted_on k id o = checked_read o (yes (is_deleted_now (standing_in (kind_store_of k o) id)))

-- the known version as a word: below 2^32 its bits, else none
unfoldable pub known_on : Kind → ℤ → Overlay → Result ℕ Refusal
known_on k id o = checked_read o (Ok (word_of (known_version k (kind_store_of k o) id)))

-- ---- a text by its handle, which is its number among the held strings

abbrev pub text_view : Option Span → View
text_view (Some p) = Ok (Some p)
text_view None = Err R.NoSuchNumber

unfoldable pub text_on : ℕ → Overlay → View
text_on h o = checked_view o (text_view (span_of o.texts.spans (used_of o.texts) o.texts.strings h))
