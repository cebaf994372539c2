-- Ids, counts and records by number, and records by id, of a sound overlay: they are the Rust's, whose views run on to the arena's end.
use Rattle.std.specs.Prelude.{Err, None, Ok, Option, Some, slice_get}
use Rattle.base.specs.Options.{bind}
use Rattle.std.proofs.Common.{◌≡◌, ℕ, zero, suc, ◌+◌, ◌-◌, ◌<◌, ◌≤◌, true, false, ◌↔◌, List, [], ◌∷◌, map, length, get_or, take, drop, ℤ, sym, refl, ap, ◌∙◌, arith, take-append-drop, length-take, drop-drop, w64, SFits, le-leb}
use lib.ListN.{length-map}
use Rattle.base.proofs.Split.{by_bool, by_lt, no}
use Rattle.kind.specs.declared.Kind.{Kind}
use Rattle.kind.specs.declared.Kind.TheVariants as K
use Rattle.osm_id.specs.Order.{rank, id_of}
use Rattle.little.specs.declared.Span.{Span}
use Rattle.refusal.specs.declared.Refusal.TheVariants as R
use Rattle.compact_legal.specs.Judge.{record_end}
use Rattle.compact_legal.specs.Whole.{kept_bytes}
use Rattle.kind_table.specs.declared.Row.{Row}
use Rattle.kind_table.specs.Rows.{rising, find}
use Rattle.kind_table.proofs.Maps.{find_row}
use Rattle.kind_table.proofs.Tables.{sound_rises}
use Rattle.kind_store.specs.KindStore.{KindStore, is_live}
use Rattle.kind_store.specs.WellFormed.{rows_in}
use Rattle.kind_sound.specs.Sound.{SoundKindStore}
use Rattle.kind_reading.specs.declared.Side.{Side}
use Rattle.kind_reading.specs.declared.Side.TheVariants.{Live, Deleted}
use Rattle.kind_reading.specs.Listed.{View, rows_read, rows_on, nth, view_to, view_at}
use Rattle.kind_reading.proofs.Lists.{rows_all, on_rising, on_found, nth_at, missing_is}
use Rattle.kind_reading.proofs.Views.{part_used, view_within}
use Rattle.listing.specs.Table.{Ranked}
use Rattle.overlay.specs.Overlay.{Overlay, kind_store_of}
use Rattle.overlay.specs.Given.{InBytes}
use Rattle.overlay.specs.Sound.{Sound, is_sound}
use Rattle.overlay.proofs.Decides.{decides}
use Rattle.overlay_reading.specs.Reading.{yes, id_read, count_on, id_on, record_on, get_on, has_on, is_deleted_on, view_in}
use Rattle.overlay_reading.proofs.Records.{row_shows, live_view_lem, live_reads, deleted_reads, unknown_reads, get_given}
use Rattle.overlay_reading.proofs.Numbers.{count_is, record_row, record_missing}
use Rattle.published.specs.Std.{slice_from}
use Rattle.published.specs.Parse.{CompactDiffOverlay, get_data, has, is_deleted}
use Rattle.published.specs.Sorted.{into_sorted, kind_sorted, table_record}
use Rattle.refines.specs.OneKind.{SameFields}
use Rattle.refines.specs.Overlays.{fields_of}
use Rattle.refines.specs.Numbers.{sorted_kind, ids_on, numbered, to_arena_end, rust_view}
use Rattle.refines.proofs.Maps.{elem_past}
use Rattle.refines.proofs.Built.{built_ids, built_offsets, built_deleted, built_arena}

-- ---- lists by number

kind_is : (k : Kind) (r : CompactDiffOverlay) → sorted_kind k r ≡ kind_sorted (fields_of k r)
unfolding into_sorted
kind_is K.Node r = refl
kind_is K.Way r = refl
kind_is K.Relation r = refl

id_numbered : (rs : List Row) (n : ℕ) → id_read (nth rs n) ≡ numbered (slice_get (map (λ (q : Row). id_of q.rank) rs) n)
unfolding nth
id_numbered [] n = refl
id_numbered (q ∷ rs) zero = refl
id_numbered (q ∷ rs) (suc n) = id_numbered rs n

offset_at : (rs : List Row) (n : ℕ) (d : Row) → n < length rs → slice_get (map (λ (q : Row). q.offset) rs) n ≡ Some (get_or rs n d).offset
offset_at [] n d l = absurd (omega arith)
offset_at (q ∷ rs) zero d l = refl
offset_at (q ∷ rs) (suc n) d l = offset_at rs n d (omega arith)

-- ---- the view of a live row

-- a part of the used bytes, and those behind it
runs_on : (at len : ℕ) (s : KindStore) → at + len ≤ s.used → to_arena_end s at len ≡ drop at (take s.used s.arena)
runs_on at len s l = rw (← part_used at len s.used s.arena l, ← drop-drop len at (take s.used s.arena)) (take-append-drop len (drop at (take s.used s.arena)))

view_offset : (at p n : ℕ) (e : Option ℕ) → view_to at e ≡ Ok (Some (record { start = p; len = n })) → at ≡ p
view_offset at p n (Some e) h =
    let w : ◌≡◌ {A = Span} (record { start = at; len = e - at }) (record { start = p; len = n }) = cc in
    ap (λ (x : Span). x.start) w
view_offset at p n None h = no cc

row_viewed : (strings : ℕ) (k : Kind) (s : KindStore) (w : SoundKindStore strings k s) (n : ℕ) (q : Row) → find n (rows_in s) ≡ Some q → is_live q.offset ≡ true
    → slice_from (take s.used s.arena) q.offset ≡ rust_view s (view_in strings k s q.offset)
unfolding view_at
row_viewed strings k s w n q e t =
    let x = row_shows strings k s w n q e t in
    let p = view_offset q.offset x.offset (length (kept_bytes x.held)) (record_end strings k (take s.used s.arena) q.offset) x.is in
    let l = view_within strings k s.arena s.used w.whole x.offset x.held x.starts in
    let m = length-take s.used s.arena in
    ap (slice_from (take s.used s.arena)) p
    ∙ rw (le-leb x.offset (length (take s.used s.arena)) (omega arith)) (ap Some (sym (runs_on x.offset (length (kept_bytes x.held)) s (omega arith))))
    ∙ sym (ap (rust_view s) x.is)

module _ (o : Overlay) (b : InBytes o) (w : Sound o) (ranks : Ranked o) (r : CompactDiffOverlay) (k : Kind) (same : SameFields (kind_store_of k o) (fields_of k r)) where
  tested : is_sound o ≡ true
  tested = (decides o b).1 w

  all_rows : rows_read (kind_store_of k o).table (kind_store_of k o).ids ≡ rows_in (kind_store_of k o)
  all_rows = rows_all (kind_store_of k o).table (kind_store_of k o).ids (w.kind_stores k).order

  rises : rising (rows_in (kind_store_of k o)) ≡ true
  rises = sound_rises (kind_store_of k o).table (kind_store_of k o).ids (w.kind_stores k).order

  -- the ids of both lists
  pub ids_same : (side : Side) → ids_on side (sorted_kind k r) ≡ map (λ (q : Row). id_of q.rank) (rows_on side (rows_in (kind_store_of k o)))
  ids_same Live = rw (kind_is k r) (built_ids (kind_store_of k o) (fields_of k r) same rises (ranks.rows k))
  ids_same Deleted = rw (kind_is k r) (built_deleted (kind_store_of k o) (fields_of k r) same rises (ranks.rows k))

  -- upserts(kind)[n], deleted(kind)[n]
  pub ids_by_number : (side : Side) (n : ℕ) → id_on k side n o ≡ numbered (slice_get (ids_on side (sorted_kind k r)) n)
  unfolding id_on
  ids_by_number side n = rw (tested, all_rows, ids_same side) (id_numbered (rows_on side (rows_in (kind_store_of k o))) n)

  -- upserts(kind).len(), deleted(kind).len()
  pub counts : (side : Side) → count_on k side o ≡ Ok (length (ids_on side (sorted_kind k r)))
  counts side = count_is o b w k side ∙ rw (ids_same side) (ap Ok (sym (length-map (rows_on side (rows_in (kind_store_of k o))) (λ (q : Row). id_of q.rank))))

  abbrev live : List Row
  live = rows_on Live (rows_in (kind_store_of k o))

  table_is : (n : ℕ) → table_record (sorted_kind k r) n ≡ bind (slice_get (map (λ (q : Row). q.offset) live) n) (slice_from (take (kind_store_of k o).used (kind_store_of k o).arena))
  unfolding table_record
  table_is n =
      rw (kind_is k r, built_offsets (kind_store_of k o) (fields_of k r) same rises (ranks.rows k), built_arena (kind_store_of k o) (fields_of k r) same rises (ranks.rows k))

  -- fn record(&self, i: usize) -> &[u8]
  pub record_by_number : (n : ℕ) → table_record (sorted_kind k r) n ≡ rust_view (kind_store_of k o) (record_on k n o)
  unfolding record_on bind
  record_by_number n =
      let d : Row = record { rank = 0; offset = 0; floor = 0 } in
      table_is n ∙ rw (tested, all_rows) (by_lt n (length live)
      (λ l.
      let q = on_found (get_or live n d).rank (rows_in (kind_store_of k o)) rises Live (get_or live n d) (find_row live (on_rising Live (rows_in (kind_store_of k o)) rises) n d l) in
      rw (offset_at live n d l, nth_at live n d l) (row_viewed o.texts.strings k (kind_store_of k o) (w.kind_stores k) (get_or live n d).rank (get_or live n d) q.0 q.1))
      (λ l. rw (elem_past (map (λ (q : Row). q.offset) live) n (rw (length-map live (λ (q : Row). q.offset)) l), (missing_is live n).1 l)))

  -- ours and the used bytes behind it
  pub record_runs_on : (n at len : ℕ) → record_on k n o ≡ Ok (Some (record { start = at; len = len }))
      → table_record (sorted_kind k r) n ≡ Some (to_arena_end (kind_store_of k o) at len)
  record_runs_on n at len e = record_by_number n ∙ ap (rust_view (kind_store_of k o)) e

  -- 21 where the Rust panics
  pub record_absent : (n : ℕ) → (record_on k n o ≡ Err R.NoSuchNumber) ↔ (table_record (sorted_kind k r) n ≡ None)
  record_absent n = (
    λ e. record_by_number n ∙ ap (rust_view (kind_store_of k o)) e,
    λ e. by_lt n (length live)
        (λ l. let d : Row = record { rank = 0; offset = 0; floor = 0 } in
        let v = record_row o b w k n d l in
        let x : Some (to_arena_end (kind_store_of k o) v.offset (length (kept_bytes v.held))) ≡ None = sym (record_runs_on n v.offset (length (kept_bytes v.held)) v.is) ∙ e in
        no cc)
        (λ l. (record_missing o b w k (length live) n (count_is o b w k Live)).1 l),
  )

-- ---- by id

module _ (o : Overlay) (b : InBytes o) (w : Sound o) (r : CompactDiffOverlay) (k : Kind) (same : SameFields (kind_store_of k o) (fields_of k r)) (id : ℤ) (f : SFits w64 id) where
  -- an id is live, or deleted, or not known
  pub by_row : {C : Type 0} → ((q : Row) → find (rank id) (rows_in (kind_store_of k o)) ≡ Some q → is_live q.offset ≡ true → C)
      → ((q : Row) → find (rank id) (rows_in (kind_store_of k o)) ≡ Some q → is_live q.offset ≡ false → C) → (find (rank id) (rows_in (kind_store_of k o)) ≡ None → C) → C
  by_row {C} live deleted unknown = go (find (rank id) (rows_in (kind_store_of k o))) refl
    where
      go : (x : Option Row) → find (rank id) (rows_in (kind_store_of k o)) ≡ x → C
      go None e = unknown e
      go (Some q) e = by_bool (is_live q.offset) (live q e) (deleted q e)

  -- get_node, get_way, get_relation
  pub data_by_id : get_data (fields_of k r) id ≡ rust_view (kind_store_of k o) (get_on k id o)
  unfolding get_data bind
  data_by_id =
      rw (same.offsets id f, same.arena) (by_row
      (λ q e t. rw (e, t, live_view_lem o b w k id f q e t) (row_viewed o.texts.strings k (kind_store_of k o) (w.kind_stores k) (rank id) q e t))
      (λ q e t. rw (e, t, (deleted_reads o b w k id f q e t).1.1))
      (λ e. rw (e, (unknown_reads o b w k id f e).1.1)))

  pub data_runs_on : (at len : ℕ) → get_on k id o ≡ Ok (Some (record { start = at; len = len }))
      → get_data (fields_of k r) id ≡ Some (to_arena_end (kind_store_of k o) at len)
  data_runs_on at len e = data_by_id ∙ ap (rust_view (kind_store_of k o)) e

  pub data_absent : (get_on k id o ≡ Ok None) ↔ (get_data (fields_of k r) id ≡ None)
  data_absent = (λ e. data_by_id ∙ ap (rust_view (kind_store_of k o)) e, λ e. go (get_on k id o) refl (sym data_by_id ∙ e))
    where
      go : (v : View) → get_on k id o ≡ v → rust_view (kind_store_of k o) v ≡ None → get_on k id o ≡ Ok None
      go (Ok (Some p)) e h = no cc
      go (Ok None) e h = e
      go (Err x) e h = absurd (get_given o b w k id f x e)

  -- has_node, has_way, has_relation
  pub has_same : has_on k id o ≡ yes (has (fields_of k r) id)
  unfolding has
  has_same =
      rw (same.offsets id f) (by_row
      (λ q e t. rw (e, t) (live_reads o b w k id f q e t).0)
      (λ q e t. rw (e, t) (deleted_reads o b w k id f q e t).0)
      (λ e. rw e (unknown_reads o b w k id f e).0))

  -- is_deleted(kind, id)
  pub deleted_same : is_deleted_on k id o ≡ yes (is_deleted (fields_of k r) id)
  unfolding is_deleted
  deleted_same =
      rw (same.deleted id f) (by_row
      (λ q e t. rw (e, t) (live_reads o b w k id f q e t).1.0)
      (λ q e t. rw (e, t) (deleted_reads o b w k id f q e t).1.0)
      (λ e. rw e (unknown_reads o b w k id f e).1.0))
