-- What the setting's word and a row's offset say.
use Prim.Native.Nat.{ℕ, ◌^◌, ◌<◌}
use mathlib.Core.Path.{◌≡◌, refl, ◌∙◌, ap}
use mathlib.Core.Bool.{true, false}
use native.Mathlib.Omega.{arith}
use lib.Dec.{ltb, eqb}
use borrow.Author.Tests.{ltb-true}
use Rattle.std.specs.Option.{is_some}
use Rattle.std.specs.Prelude.{Err, None, Ok, Option, Result, Some, ℤ}
use Rattle.base.specs.Bytes.{Bytes}
use Rattle.base.proofs.Split.{by_bool, no}
use Rattle.kind.specs.declared.Kind.{Kind}
use Rattle.osm_id.specs.Order.{rank}
use Rattle.kind_table.specs.declared.Row.{Row}
use Rattle.kind_table.specs.Words.{record_offset, row_at, row_found, lookup}
use Rattle.kind_store.specs.KindStore.{KindStore, KindStoreAfter, checked, floor_after, pushed_as, pushed, deleted_as, deleted, is_live, no_floor, known_of, known_at, known_version, floor_at, floor_of}
use Rattle.kind_store.specs.Seats.{regression_in, setting_of}
use Rattle.kind_store.specs.declared.VersionRegression.{VersionRegression}

-- a setting and the word that its regression stands for mean the same
word_is : (setting : ℕ) → eqb (setting_of (regression_in setting)) 0 ≡ eqb setting 0
word_is setting = by_bool (eqb setting 0) (λ t. rw t) (λ t. rw t)

module _ (r : VersionRegression) (setting : ℕ) (e : r ≡ regression_in setting) where
  checked_same : (known claim : Option ℤ) → checked (setting_of r) known claim ≡ checked setting known claim
  unfolding checked
  checked_same known claim = rw (e, word_is setting)

  floor_same : (known claim : Option ℤ) (floor : ℕ) → floor_after (setting_of r) known claim floor ≡ floor_after setting known claim floor
  floor_same known (Some v) floor = refl
  floor_same known None floor = rw (e, word_is setting)

  pub checked_by : (known claim : Option ℤ) {x : Result Unit ℤ} → x ≡ checked (setting_of r) known claim → x ≡ checked setting known claim
  checked_by known claim w = w ∙ checked_same known claim

  pub pushed_by : (k : Kind) (s : KindStore) (id : ℤ) (claim : Option ℤ) (bytes : Bytes) {x : KindStoreAfter} → x ≡ pushed k (setting_of r) s id claim bytes → x ≡ pushed k setting s id claim bytes
  unfolding pushed
  pushed_by k s id claim bytes {x} w =
      w ∙ go (checked (setting_of r) (known_version k s id) claim) ∙ ap (pushed_as k setting s id claim bytes) (checked_same (known_version k s id) claim)
    where
      go : (b : Result Unit ℤ) → pushed_as k (setting_of r) s id claim bytes b ≡ pushed_as k setting s id claim bytes b
      go (Err v) = refl
      go (Ok tt) = rw (floor_same (known_version k s id) claim (floor_of s id))

  pub deleted_by : (k : Kind) (s : KindStore) (id : ℤ) (claim : Option ℤ) {x : KindStoreAfter} → x ≡ deleted k (setting_of r) s id claim → x ≡ deleted k setting s id claim
  unfolding deleted
  deleted_by k s id claim w = w ∙ ap (deleted_as k s id claim) (checked_same (known_version k s id) claim)

-- an offset says where a live id's record starts
pub live_offset : (offset x : ℕ) → Some x ≡ record_offset offset → (x ≡ offset) × (is_live offset ≡ true)
unfolding is_live
live_offset offset x e =
    by_bool (ltb offset (2 ^ 63))
    (λ t. let y : Some x ≡ Some offset = rw t at e in (cc, t))
    (λ t. let y : Some x ≡ None = rw t at e in no (cc))

pub offset_short : (offset x : ℕ) → Some x ≡ record_offset offset → x < 2 ^ 63
offset_short offset x e =
    by_bool (ltb offset (2 ^ 63))
    (λ t. let y : Some x ≡ Some offset = rw t at e in let z : x ≡ offset = cc in omega (arith, ltb-true offset (2 ^ 63) t))
    (λ t. let y : Some x ≡ None = rw t at e in no (cc))

pub no_offset : (offset : ℕ) → None ≡ record_offset offset → is_live offset ≡ false
unfolding is_live
no_offset offset e =
    by_bool (ltb offset (2 ^ 63))
    (λ t. let y : None ≡ Some offset = rw t at e in no (cc))
    (λ t. t)

-- whether an offset says that the id is live
pub offset_is : (offset : ℕ) → is_some (record_offset offset) ≡ is_live offset
unfolding is_live
offset_is offset = by_bool (ltb offset (2 ^ 63)) (λ t. rw t) (λ t. rw t)

-- what is known of an id, by its row
module _ (k : Kind) (s : KindStore) (id : ℤ) where
  pub known_there : (row : Row) → Some row ≡ row_found s.table (lookup s.table s.ids (rank id)) → (known_of k s.arena row ≡ known_version k s id) × (row.floor ≡ floor_of s id)
  unfolding known_version floor_of
  known_there row = go (lookup s.table s.ids (rank id))
    where
      go : (f : Result ℕ ℕ) → Some row ≡ row_found s.table f → (known_of k s.arena row ≡ known_at k s.table s.arena f) × (row.floor ≡ floor_at s.table f)
      go (Ok i) e = let x : row ≡ row_at s.table i = cc in rw x (refl, refl)
      go (Err p) e = no (cc)

  pub known_nowhere : None ≡ row_found s.table (lookup s.table s.ids (rank id)) → (None ≡ known_version k s id) × (no_floor ≡ floor_of s id)
  unfolding known_version floor_of
  known_nowhere = go (lookup s.table s.ids (rank id))
    where
      go : (f : Result ℕ ℕ) → None ≡ row_found s.table f → (None ≡ known_at k s.table s.arena f) × (no_floor ≡ floor_at s.table f)
      go (Ok i) e = no (cc)
      go (Err p) e = (refl, refl)
