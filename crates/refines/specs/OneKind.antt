-- One kind's storage beside the Rust's fields of that kind: its offsets, deleted ids and floors are what the table's rows say, its arena the used bytes.
use Rattle.std.specs.Prelude.{◌≡◌, ℕ, ◌≤◌, Bool, true, false, cond, not, [], ◌∷◌, length, take, ℤ, FitsSigned, ◌==◌, None, Option, Some}
use Rattle.std.specs.Int.{w64}
use Rattle.base.specs.Bytes.{both}
use Rattle.osm_id.specs.Order.{rank}
use Rattle.version_floor.specs.Version.{of_word}
use Rattle.compact.specs.Fits.{fits_signed}
use Rattle.kind_table.specs.declared.Row.{Row}
use Rattle.kind_table.specs.Rows.{find}
use Rattle.kind_store.specs.KindStore.{KindStore, is_live}
use Rattle.kind_store.specs.WellFormed.{rows_in}
use Rattle.published.specs.Std.{HashMap, get, HashSet, contains}
use Rattle.published.specs.Parse.{KindFields, is_some}
use Rattle.refines.specs.Same.{version}

-- allow_version_regression, by the library's setting
abbrev pub allowed : ℕ → Bool
allowed setting = cond (setting == 0) false true

abbrev pub row_of : KindStore → ℤ → Option Row
row_of s id = find (rank id) (rows_in s)

abbrev pub offset_in : Option Row → Option ℕ
offset_in None = None
offset_in (Some r) = cond (is_live r.offset) (Some r.offset) None

abbrev pub deleted_in : Option Row → Bool
deleted_in None = false
deleted_in (Some r) = cond (is_live r.offset) false true

abbrev pub floor_in : Option Row → Option ℤ
floor_in None = None
floor_in (Some r) = of_word r.floor

-- "a key stands in it once", and is an i64
unfoldable pub keyed : {T : Type 0} → HashMap T → Bool
keyed [] = true
keyed (e ∷ m) = both (fits_signed w64 e.key) (both (not (is_some (get m e.key))) (keyed m))

unfoldable pub once : HashSet → Bool
once [] = true
once (x ∷ s) = both (fits_signed w64 x) (both (not (contains s x)) (once s))

pub record SameFields (s : KindStore) (r : KindFields) : Type 0 where
  pub arena : r.arena ≡ take s.used s.arena
  pub within : s.used ≤ length s.arena
  pub offsets : (id : ℤ) → FitsSigned w64 id → get r.index id ≡ offset_in (row_of s id)
  pub deleted : (id : ℤ) → FitsSigned w64 id → contains r.deleted id ≡ deleted_in (row_of s id)
  pub floors : (id : ℤ) → FitsSigned w64 id → version (get r.floors id) ≡ floor_in (row_of s id)
  pub index_keyed : keyed r.index ≡ true
  pub deleted_once : once r.deleted ≡ true
