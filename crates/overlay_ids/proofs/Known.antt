-- In sound storage the known version of a row's id is the one that the row says.
use Rattle.std.specs.Prelude.{Some}
use Prim.Native.Nat.{ℕ, ◌<◌}
use mathlib.Core.Path.{◌≡◌, refl, sym, ◌∙◌, ap}
use mathlib.Core.Bool.{true}
use native.Mathlib.Omega.{arith}
use lib.ListN.{get_or}
use mir.Syntax.{w64}
use mir.Val.{to_z, of_z, Fits}
use Rattle.base.proofs.Split.{by_bool, clash, both_left, both_right}
use Rattle.kind.specs.declared.Kind.{Kind}
use Rattle.kind.specs.declared.Kind.TheVariants.{Node, Way, Relation}
use Rattle.osm_id.specs.Order.{id_of}
use Rattle.osm_id.proofs.Steps.{result_is}
use Rattle.version_floor.specs.Version.{word_of}
use Rattle.kind_table.specs.Words.{row_at, rows_of, held, sound_table}
use Rattle.kind_table.specs.Rows.{find}
use Rattle.kind_table.specs.declared.Row.{Row}
use Rattle.kind_table.proofs.Maps.{find_row}
use Rattle.kind_table.proofs.Spans.{rows_length, rows_at}
use Rattle.kind_table.proofs.Tables.{sound_rises}
use Rattle.kind_store.specs.KindStore.{KindStore, known_of, known_version}
use Rattle.kind_store.specs.WellFormed.{rows_in}
use Rattle.kind_store.proofs.KindStores.{known_row}
use Rattle.kind_sound.proofs.Ids.{rank_back}
use Rattle.kind_sound.proofs.Passing.{unsound_order}
use Rattle.overlay.specs.Overlay.{Overlay, kind_store_of}
use Rattle.overlay.specs.Sound.{sound_of, kind_stores_sound, is_sound}
use Rattle.overlay_ids.specs.Rows.{row_version}

-- the rows of each kind of a sound overlay strictly rise
module _ (o : Overlay) where
  each_sound : kind_stores_sound o ≡ true → (k : Kind) → sound_of k o ≡ true
  unfolding kind_stores_sound
  each_sound h Node = both_left _ _ h
  each_sound h Way = both_left _ _ (both_right _ _ h)
  each_sound h Relation = both_right _ _ (both_right _ _ h)

  pub order_sound : (k : Kind) → is_sound o ≡ true → sound_table (kind_store_of k o).table (kind_store_of k o).ids ≡ true
  unfolding is_sound
  order_sound k h =
      let s = each_sound (both_right _ _ (both_right _ _ h)) k in
      by_bool (sound_table (kind_store_of k o).table (kind_store_of k o).ids) (λ t. t) (λ f. clash s (sym (unsound_order o.texts.strings k (kind_store_of k o) f)))

module _ (k : Kind) (s : KindStore) (sound : sound_table s.table s.ids ≡ true) (i : ℕ) (l : i < held s.table s.ids) where
  row_found : find (row_at s.table i).rank (rows_in s) ≡ Some (row_at s.table i)
  unfolding held
  row_found =
      let h : i < s.ids = omega arith in
      let e : get_or (rows_of s.table s.ids) i (row_at s.table i) ≡ row_at s.table i = rows_at s.table s.ids i (row_at s.table i) h in
      rw e at (find_row (rows_of s.table s.ids) (sound_rises s.table s.ids sound) i (row_at s.table i) (omega (arith, rows_length s.table s.ids)))

  pub row_says : (r : Row) → r ≡ row_at s.table i → Fits w64 r.rank → word_of (known_of k s.arena r) ≡ row_version k s (row_at s.table i)
  row_says r e f =
      let back : to_z w64 (of_z w64 (id_of r.rank)) ≡ id_of r.rank = result_is f refl in
      let known = known_row k s sound (id_of r.rank) r (ap (λ n. find n (rows_in s)) (rank_back r.rank) ∙ rw e row_found) in
      ap word_of (sym known) ∙ ap (λ z. word_of (known_version k s z)) (sym back) ∙ ap (row_version k s) e
