-- The rows of a list, row by row, are the readings by number, one after the other.
use Rattle.std.specs.Prelude.{Ok}
use Prim.Native.Nat.{ℕ, suc, ◌+◌, ◌<◌, ◌≤◌, min}
use mathlib.Core.Path.{◌≡◌, refl, ap}
use mathlib.Core.Bool.{true}
use mathlib.Core.List.{List, [], ◌∷◌, map}
use native.Mathlib.Omega.{arith}
use lib.ListN.{length, get_or}
use borrow.Author.Tests.{le-leb, lt-leb}
use Rattle.base.proofs.Split.{by_le}
use Rattle.kind.specs.declared.Kind.{Kind}
use Rattle.refusal.specs.declared.Refusal.TheVariants as R
use Rattle.little.specs.Little.{over}
use Rattle.little.proofs.Overs.{over_start}
use Rattle.kind_table.specs.declared.Row.{Row}
use Rattle.kind_store.specs.KindStore.{KindStore}
use Rattle.kind_reading.specs.declared.Side.{Side}
use Rattle.kind_reading.proofs.Lists.{nth_at}
use Rattle.overlay.specs.Overlay.{Overlay, kind_store_of}
use Rattle.overlay.specs.Sound.{is_sound}
use Rattle.overlay_reading.specs.Reading.{count_on, id_on, known_on}
use Rattle.overlay_ids.specs.Bulk.{AllIds, each_number, id_of_number, version_of_number, not_written, all_ids_on}
use Rattle.overlay_ids.specs.Rows.{row_id, row_version, rows_listed, kind_ids}

abbrev blank : Row
blank = record { rank = 0; offset = 0; floor = 0 }

pub length_map : (g : Row → ℕ) (rs : List Row) → length (map g rs) ≡ length rs
length_map g [] = refl
length_map g (r ∷ rs) = ap suc (length_map g rs)

-- what is read for each number is what each row gives
each_row : (f : ℕ → ℕ) (g : Row → ℕ) (rs : List Row) (i : ℕ) → ((n : ℕ) → n < length rs → f (n + i) ≡ g (get_or rs n blank)) → each_number f i (length rs) ≡ map g rs
unfolding each_number
each_row f g [] i h = refl
each_row f g (r ∷ rs) i h =
    let a : f i ≡ g r = let z : 0 + i ≡ i = omega arith in rw z at (h 0 (omega arith)) in
    let t = each_row f g rs (suc i) (λ n l. let z : suc n + i ≡ n + suc i = omega arith in rw z at (h (suc n) (omega arith))) in
    cc (a, t)

-- one kind's list, written or not
module _ (k : Kind) (side : Side) (s : KindStore) (ids versions : List ℕ) (n : ℕ) (e : n ≡ length (rows_listed side s)) where
  pub kind_written : (a b : List ℕ) → n ≤ min (length ids) (length versions) → a ≡ over ids 0 (map row_id (rows_listed side s)) → b ≡ over versions 0 (map (row_version k s) (rows_listed side s))
      → ◌≡◌ {A = AllIds} (record { ids = a; versions = b; answer = Ok n }) (kind_ids k side s ids versions)
  unfolding kind_ids
  kind_written a b h p q = rw (le-leb (length (rows_listed side s)) (min (length ids) (length versions)) (omega arith), ← e, ← p, ← q)

  pub kind_short : min (length ids) (length versions) < n → not_written ids versions R.ShortOutput ≡ kind_ids k side s ids versions
  unfolding kind_ids
  kind_short h = rw (lt-leb (length (rows_listed side s)) (min (length ids) (length versions)) (omega arith))

module _ (k : Kind) (side : Side) (o : Overlay) (sound : is_sound o ≡ true) where
  abbrev rows : List Row
  rows = rows_listed side (kind_store_of k o)

  id_is : (n : ℕ) → n < length rows → id_of_number k side o n ≡ row_id (get_or rows n blank)
  unfolding id_on
  id_is n l = rw (sound, nth_at rows n blank l)

  version_is : (n : ℕ) → n < length rows → version_of_number k side o n ≡ row_version k (kind_store_of k o) (get_or rows n blank)
  unfolding known_on
  version_is n l = rw (id_is n l, sound)

  pub rows_numbers : (ids versions : List ℕ) → kind_ids k side (kind_store_of k o) ids versions ≡ all_ids_on k side ids versions o
  unfolding kind_ids all_ids_on count_on
  rows_numbers ids versions =
      let a = each_row (id_of_number k side o) row_id rows 0 (λ n l. let z : n + 0 ≡ n = omega arith in rw z (id_is n l)) in
      let b = each_row (version_of_number k side o) (row_version k (kind_store_of k o)) rows 0 (λ n l. let z : n + 0 ≡ n = omega arith in rw z (version_is n l)) in
      by_le (length rows) (min (length ids) (length versions))
      (λ h. let p = over_start ids (map row_id rows) (omega (arith, length_map row_id rows)) in
      let q = over_start versions (map (row_version k (kind_store_of k o)) rows) (omega (arith, length_map (row_version k (kind_store_of k o)) rows)) in
      rw (sound, le-leb (length rows) _ h, a, b, p, q))
      (λ h. rw (sound, lt-leb (length rows) _ h))
