-- What is known of an id: in a sound table, what its rank finds among the rows.
use Rattle.std.specs.Prelude.{Err, None, Ok, Option, Result, Some}
use Prim.Native.Nat.{ℕ}
use mathlib.Core.Path.{◌≡◌, refl, sym, ◌∙◌, ap}
use mathlib.Core.Bool.{Bool, true, false, not}
use mathlib.Core.Logic.{◌↔◌}
use mathlib.Core.List.{List}
use lib.IntN.{ℤ}
use Rattle.base.proofs.Split.{by_bool, no}
use Rattle.osm_id.specs.Order.{rank}
use Rattle.kind_store.specs.KindStore.{is_live}
use Rattle.kind_table.specs.Rows.{find}
use Rattle.kind_table.specs.Words.{row_at, row_found, rows_of, sound_table, lookup}
use Rattle.kind_table.specs.declared.Row.{Row}
use Rattle.kind_table.proofs.Tables.{found_row, found_none}
use Rattle.kind_reading.specs.declared.Standing.{Standing}
use Rattle.kind_reading.specs.declared.Standing.TheVariants.{Live, Deleted, Unknown}
use Rattle.kind_reading.specs.Listed.{row_standing, standing_at, standing_of}

module _ (table : List ℕ) (ids : ℕ) (id : ℤ) where
  pub standing_at_lem : (f : Result ℕ ℕ) → f ≡ lookup table ids (rank id) → standing_of table ids id ≡ standing_at table f
  unfolding standing_of
  standing_at_lem f e = rw e

  pub standing_there : (row : Row) → Some row ≡ row_found table (lookup table ids (rank id)) → row_standing row ≡ standing_of table ids id
  unfolding standing_of
  standing_there row = go (lookup table ids (rank id))
    where
      go : (f : Result ℕ ℕ) → Some row ≡ row_found table f → row_standing row ≡ standing_at table f
      go (Ok i) e = let x : row ≡ row_at table i = cc in ap row_standing x
      go (Err p) e = no (cc)

  pub standing_nowhere : None ≡ row_found table (lookup table ids (rank id)) → Unknown ≡ standing_of table ids id
  unfolding standing_of
  standing_nowhere = go (lookup table ids (rank id))
    where
      go : (f : Result ℕ ℕ) → None ≡ row_found table f → Unknown ≡ standing_at table f
      go (Ok i) e = no (cc)
      go (Err p) e = refl

-- a live row, and one of a deleted id
module _ (r : Row) where
  pub row_live : is_live r.offset ≡ true → row_standing r ≡ Live r.offset
  unfolding row_standing
  row_live t = rw t

  pub row_deleted : is_live r.offset ≡ false → row_standing r ≡ Deleted
  unfolding row_standing
  row_deleted t = rw t

  pub row_known : row_standing r ≡ Unknown → ⊥
  unfolding row_standing
  row_known e =
      by_bool (is_live r.offset)
      (λ t. let z : Live r.offset ≡ Unknown = rw t at e in no (cc))
      (λ t. let z : Deleted ≡ Unknown = rw t at e in no (cc))

pub not_back : (a b : Bool) → a ≡ not b → b ≡ not a
not_back true true e = cc
not_back true false e = refl
not_back false true e = refl
not_back false false e = cc

-- the standing of what was found
abbrev pub standing_is : Option Row → Standing
standing_is None = Unknown
standing_is (Some r) = row_standing r

module _ (table : List ℕ) (ids : ℕ) (sound : sound_table table ids ≡ true) (id : ℤ) where
  pub standing_is_lem : standing_of table ids id ≡ standing_is (find (rank id) (rows_of table ids))
  standing_is_lem = go (lookup table ids (rank id)) refl
    where
      go : (f : Result ℕ ℕ) → f ≡ lookup table ids (rank id) → standing_of table ids id ≡ standing_is (find (rank id) (rows_of table ids))
      go (Ok i) e = rw (standing_at_lem table ids id (Ok i) e, (found_row table ids sound (rank id) i (sym e)).1)
      go (Err p) e = rw (standing_at_lem table ids id (Err p) e, (found_none table ids sound (rank id) p (sym e)).0)

  -- unknown exactly when no row has the id's rank
  pub unknown_is : (standing_of table ids id ≡ Unknown) ↔ (find (rank id) (rows_of table ids) ≡ None)
  unknown_is = (λ e. go (find (rank id) (rows_of table ids)) (sym standing_is_lem ∙ e), λ e. standing_is_lem ∙ ap standing_is e)
    where
      go : (o : Option Row) → standing_is o ≡ Unknown → o ≡ None
      go None e = refl
      go (Some r) e = absurd (row_known r e)
