-- In a sound overlay the view of a live id is a record of that id: its bytes in the arena are those of the record.
use Rattle.std.specs.Prelude.{Err, None, Ok, Option, Result, Some}
use Prim.Native.Nat.{ℕ}
use mathlib.Core.Path.{◌≡◌, refl, sym, ◌∙◌, ap}
use mathlib.Core.Bool.{true, false, not}
use mathlib.Core.List.{List}
use lib.IntN.{ℤ}
use lib.ListN.{length, take, drop}
use mir.Syntax.{w64}
use mir.Val.{SFits}
use Rattle.base.proofs.Split.{by_bool, by_either, clash, no}
use Rattle.kind.specs.declared.Kind.{Kind}
use Rattle.osm_id.specs.Order.{rank, id_of}
use Rattle.osm_id.proofs.Orders.{id_rank}
use Rattle.compact.specs.Cut.{KeptRecord}
use Rattle.compact_legal.specs.Whole.{kept_bytes, record_at, starts_at}
use Rattle.compact_legal.proofs.Starts.{start_is}
use Rattle.refusal.specs.declared.Refusal.{Refusal}
use Rattle.kind_table.specs.Rows.{find}
use Rattle.kind_table.specs.Words.{rows_of}
use Rattle.kind_table.specs.declared.Row.{Row}
use Rattle.kind_table.proofs.Maps.{find_rank, find_passes}
use Rattle.kind_store.specs.KindStore.{KindStore, is_live}
use Rattle.kind_sound.specs.Sound.{sound_row, SoundKindStore}
use Rattle.kind_reading.specs.Listed.{View, row_standing}
use Rattle.kind_reading.proofs.Standings.{row_live, row_deleted, standing_is_lem}
use Rattle.kind_reading.proofs.Views.{view_is, view_bytes}
use Rattle.overlay.specs.Overlay.{Overlay, kind_store_of}
use Rattle.overlay.specs.Given.{InBytes}
use Rattle.overlay.specs.Sound.{Sound, is_sound}
use Rattle.overlay.proofs.Decides.{decides}
use Rattle.overlay_reading.specs.Reading.{view_in, standing_in, get_on, has_on, is_deleted_on}

-- a view shows a record of an id that starts in the arena: where it starts, as long as it is, and byte for byte
pub record Shows (s : KindStore) (kept : List KeptRecord) (id : ℤ) (v : View) : Type 0 where
  pub offset : ℕ
  pub held : KeptRecord
  pub starts : record_at offset kept ≡ Some held
  pub same : held.id ≡ id
  pub is : v ≡ Ok (Some (record { start = offset; len = length (kept_bytes held) }))
  pub bytes : take (length (kept_bytes held)) (drop offset s.arena) ≡ kept_bytes held

-- the row of a live id points at a record of that id
pub row_shows : (strings : ℕ) (k : Kind) (s : KindStore) (w : SoundKindStore strings k s) (n : ℕ) (r : Row) → find n (rows_of s.table s.ids) ≡ Some r → is_live r.offset ≡ true
    → Shows s w.whole.kept (id_of n) (view_in strings k s r.offset)
unfolding sound_row
row_shows strings k s w n r e t =
    by_either (not (is_live r.offset)) (starts_at (id_of r.rank) r.offset w.whole.kept) (find_passes (sound_row w.whole.kept) n (rows_of s.table s.ids) r w.rows e)
    (λ u. clash (sym (ap not t) ∙ u) refl)
    (λ u.
    let x = start_is (id_of r.rank) r.offset w.whole.kept u in
    record {
      offset = r.offset;
      held = x.0;
      starts = x.1.0;
      same = x.1.1 ∙ ap id_of (find_rank n (rows_of s.table s.ids) r e);
      is = view_is strings k s.arena s.used w.whole r.offset x.0 x.1.0;
      bytes = view_bytes strings k s.arena s.used w.whole r.offset x.0 x.1.0;
    })

module _ (o : Overlay) (b : InBytes o) (w : Sound o) (k : Kind) (id : ℤ) (f : SFits w64 id) where
  abbrev rows : List Row
  rows = rows_of (kind_store_of k o).table (kind_store_of k o).ids

  tested : is_sound o ≡ true
  tested = (decides o b).1 w

  known : (r : Row) → find (rank id) rows ≡ Some r → standing_in (kind_store_of k o) id ≡ row_standing r
  known r e = standing_is_lem (kind_store_of k o).table (kind_store_of k o).ids (w.kind_stores k).order id ∙ rw e

  -- the view of a live id is that of its row's offset
  pub live_view_lem : (r : Row) → find (rank id) rows ≡ Some r → is_live r.offset ≡ true → get_on k id o ≡ view_in o.texts.strings k (kind_store_of k o) r.offset
  unfolding get_on
  live_view_lem r e t = rw (tested, known r e, row_live r t)

  -- T6: a live id has its record
  pub live_reads : (r : Row) → find (rank id) rows ≡ Some r → is_live r.offset ≡ true
      → (has_on k id o ≡ Ok 1) × ((is_deleted_on k id o ≡ Ok 0) × Shows (kind_store_of k o) (w.kind_stores k).whole.kept id (get_on k id o))
  unfolding has_on is_deleted_on get_on
  live_reads r e t =
      rw (tested, known r e, row_live r t)
      (refl, (refl, rw (id_rank f) at (row_shows o.texts.strings k (kind_store_of k o) (w.kind_stores k) (rank id) r e t)))

  -- a deleted id and one that is not known have none
  pub deleted_reads : (r : Row) → find (rank id) rows ≡ Some r → is_live r.offset ≡ false → (has_on k id o ≡ Ok 0) × ((is_deleted_on k id o ≡ Ok 1) × (get_on k id o ≡ Ok None))
  unfolding has_on is_deleted_on get_on
  deleted_reads r e t = rw (tested, known r e, row_deleted r t) (refl, (refl, refl))

  pub unknown_reads : find (rank id) rows ≡ None → (has_on k id o ≡ Ok 0) × ((is_deleted_on k id o ≡ Ok 0) × (get_on k id o ≡ Ok None))
  unfolding has_on is_deleted_on get_on
  unknown_reads e = rw (tested, standing_is_lem (kind_store_of k o).table (kind_store_of k o).ids (w.kind_stores k).order id, e) (refl, (refl, refl))

  -- an id that is there has a record of it, any other has none
  pub has_shows : has_on k id o ≡ Ok 1 → Shows (kind_store_of k o) (w.kind_stores k).whole.kept id (get_on k id o)
  has_shows h = go (find (rank id) rows) refl
    where
      go : (x : Option Row) → find (rank id) rows ≡ x → Shows (kind_store_of k o) (w.kind_stores k).whole.kept id (get_on k id o)
      go None e = let y : ◌≡◌ {A = Result ℕ Refusal} (Ok 0) (Ok 1) = sym (unknown_reads e).0 ∙ h in no cc
      go (Some r) e = by_bool (is_live r.offset) (λ t. (live_reads r e t).1.1) (λ t. let y : ◌≡◌ {A = Result ℕ Refusal} (Ok 0) (Ok 1) = sym (deleted_reads r e t).0 ∙ h in no cc)

  pub has_not : has_on k id o ≡ Ok 0 → get_on k id o ≡ Ok None
  has_not h = go (find (rank id) rows) refl
    where
      go : (x : Option Row) → find (rank id) rows ≡ x → get_on k id o ≡ Ok None
      go None e = (unknown_reads e).1.1
      go (Some r) e = by_bool (is_live r.offset) (λ t. let y : ◌≡◌ {A = Result ℕ Refusal} (Ok 0) (Ok 1) = sym h ∙ (live_reads r e t).0 in no cc) (λ t. (deleted_reads r e t).1.1)

  -- nothing of a sound overlay is refused
  pub get_given : (x : Refusal) → get_on k id o ≡ Err x → ⊥
  get_given x h = go (find (rank id) rows) refl
    where
      none_given : get_on k id o ≡ Ok None → ⊥
      none_given n = let z : ◌≡◌ {A = View} (Ok None) (Err x) = sym n ∙ h in no cc

      go : (q : Option Row) → find (rank id) rows ≡ q → ⊥
      go None e = none_given (unknown_reads e).1.1
      go (Some r) e =
          by_bool (is_live r.offset)
          (λ t. let y = (live_reads r e t).1.1 in let z : ◌≡◌ {A = View} (Ok (Some (record { start = y.offset; len = length (kept_bytes y.held) }))) (Err x) = sym y.is ∙ h in no cc)
          (λ t. none_given (deleted_reads r e t).1.1)
