-- A writer of a list's rows on its way: it stands at the i-th row, n ids are written, and those of the rows from the i-th on are still to come.
use Prim.Native.Nat.{ℕ, ◌+◌, ◌<◌, ◌≤◌}
use mathlib.Core.Path.{◌≡◌, refl, ◌∙◌, ap}
use mathlib.Core.Bool.{true, false}
use mathlib.Core.List.{List, ◌∷◌, map}
use mathlib.Core.Logic.{inl}
use native.Mathlib.Omega.{arith}
use lib.ListN.{length, set, length-set}
use Rattle.kind.specs.declared.Kind.{Kind}
use Rattle.little.specs.Little.{over}
use Rattle.little.proofs.Overs.{Writing, begun, stored, written}
use Rattle.kind_table.specs.Words.{row_at, held}
use Rattle.kind_table.specs.declared.Row.{Row}
use Rattle.kind_store.specs.KindStore.{KindStore}
use Rattle.kind_reading.specs.declared.Side.{Side}
use Rattle.kind_reading.specs.Listed.{is_on, rows_read, rows_on}
use Rattle.kind_reading.proofs.Walks.{onward, onward_starts, onward_more, onward_other, onward_ends}
use Rattle.overlay_ids.specs.Rows.{row_id, row_version}

-- all rows of the list
pub onward_all : (side : Side) (table : List ℕ) (count end : ℕ) → end ≡ held table count → onward side table end 0 ≡ rows_on side (rows_read table count)
unfolding held
onward_all side table count end e = onward_starts side table end ∙ rw e

module _ (k : Kind) (side : Side) (s : KindStore) (ids₀ versions₀ : List ℕ) (end : ℕ) where
  -- the version of a row
  abbrev version_in : Row → ℕ
  version_in = row_version k s

  abbrev rows_from_here : ℕ → List Row
  rows_from_here i = onward side s.table end i

  pub record Putting (ids versions : List ℕ) (i n : ℕ) : Type 0 where
    pub within : i ≤ end
    pub behind : n ≤ i
    pub counted : n + length (rows_from_here i) ≡ length (rows_from_here 0)
    pub long_ids : length ids ≡ length ids₀
    pub long_versions : length versions ≡ length versions₀
    pub room_ids : length (rows_from_here 0) ≤ length ids₀
    pub room_versions : length (rows_from_here 0) ≤ length versions₀
    pub of_ids : Writing ids₀ (map row_id (rows_from_here 0)) ids n (map row_id (rows_from_here i))
    pub of_versions : Writing versions₀ (map version_in (rows_from_here 0)) versions n (map version_in (rows_from_here i))

  pub starts : length (rows_from_here 0) ≤ length ids₀ → length (rows_from_here 0) ≤ length versions₀ → Putting ids₀ versions₀ 0 0
  starts h g =
      record {
        within = omega arith;
        behind = omega arith;
        counted = omega arith;
        long_ids = refl;
        long_versions = refl;
        room_ids = h;
        room_versions = g;
        of_ids = begun;
        of_versions = begun;
      }

  module _ {ids versions : List ℕ} {i n : ℕ} (l : i < end) (p : Putting ids versions i n) where
    -- a row on the list: there is room for its id and its version
    module _ (t : is_on side (row_at s.table i) ≡ true) where
      next : rows_from_here i ≡ row_at s.table i ∷ rows_from_here (i + 1)
      next = onward_more side s.table end i l t

      pub id_fits : n < length ids
      id_fits = omega (arith, ap length next, p.counted, p.long_ids, p.room_ids)

      pub version_fits : n < length versions
      version_fits = omega (arith, ap length next, p.counted, p.long_versions, p.room_versions)

      pub puts : (id v : ℕ) → id ≡ row_id (row_at s.table i) → v ≡ version_in (row_at s.table i) → Putting (set ids n id) (set versions n v) (i + 1) (n + 1)
      puts id v e f =
          record {
            within = omega arith;
            behind = omega (arith, p.behind);
            counted = omega (arith, ap length next, p.counted);
            long_ids = rw length-set p.long_ids;
            long_versions = rw length-set p.long_versions;
            room_ids = p.room_ids;
            room_versions = p.room_versions;
            of_ids = stored ids n id id_fits (ap (map row_id) next ∙ rw e) p.of_ids;
            of_versions = stored versions n v version_fits (ap (map version_in) next ∙ rw f) p.of_versions;
          }

    -- a row that is not
    pub passes : is_on side (row_at s.table i) ≡ false → Putting ids versions (i + 1) n
    passes t =
        let e = onward_other side s.table end i l t in
        record {
          within = omega arith;
          behind = omega (arith, p.behind);
          counted = rw (← e) p.counted;
          long_ids = p.long_ids;
          long_versions = p.long_versions;
          room_ids = p.room_ids;
          room_versions = p.room_versions;
          of_ids = rw (← e) p.of_ids;
          of_versions = rw (← e) p.of_versions;
        }

  -- past the last row all is written
  pub ends : {ids versions : List ℕ} {i n : ℕ} → end ≤ i → Putting ids versions i n
      → (ids ≡ over ids₀ 0 (map row_id (rows_from_here 0))) × (versions ≡ over versions₀ 0 (map version_in (rows_from_here 0)))
  ends {ids} {versions} {i} {n} l p =
      let e = onward_ends side s.table end i l in (
        written ids n (map row_id (rows_from_here i)) p.of_ids (inl (ap (map row_id) e)),
        written versions n (map version_in (rows_from_here i)) p.of_versions (inl (ap (map version_in) e)),
      )
