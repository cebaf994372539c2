-- Condition 2: what both hold, told record by record, from what they hold byte by byte; and the theorem.
use Rattle.std.specs.Prelude.{Some}
use Rattle.std.proofs.Common.{◌≡◌, ℕ, Bool, true, List, ℤ, refl, ◌∙◌, arith, w64, SFits, to_z}
use Rattle.base.specs.Bytes.{Bytes, all}
use Rattle.base.proofs.Split.{by_lt, both_right}
use Rattle.kind.specs.declared.Kind.{Kind}
use Rattle.osm_id.specs.Order.{rank}
use Rattle.text.specs.Check.{is_text}
use Rattle.interner.specs.Texts.{text_of}
use Rattle.interner.specs.Sound.{texts_of}
use Rattle.interner.proofs.Interns.{length_texts}
use Rattle.model.specs.Act.{Act}
use Rattle.model.proofs.Swaps.{body_kind}
use Rattle.compact.specs.Cut.{KeptRecord}
use Rattle.compact.specs.Fits.{fits_kept}
use Rattle.compact.specs.Legal.{legal}
use Rattle.compact_legal.specs.Whole.{record_at}
use Rattle.compact_legal.proofs.Starts.{record_passes}
use Rattle.kind_table.specs.declared.Row.{Row}
use Rattle.kind_table.specs.Rows.{find}
use Rattle.kind_table.proofs.Maps.{find_passes}
use Rattle.kind_store.specs.KindStore.{is_live}
use Rattle.kind_store.specs.WellFormed.{rows_in}
use Rattle.kind_sound.specs.Sound.{sound_row}
use Rattle.kind_reading.specs.declared.Side.TheVariants.{Live}
use Rattle.kind_reading.proofs.Views.{view_is, view_bytes}
use Rattle.listing.specs.Table.{is_rank}
use Rattle.listing.proofs.Rows.{row_starts, record_kind}
use Rattle.overlay.specs.Overlay.{Overlay, kind_store_of}
use Rattle.overlay.specs.Given.{InBytes}
use Rattle.overlay.specs.Sound.{Sound}
use Rattle.overlay.proofs.Decides.{decides}
use Rattle.overlay_reading.specs.Reading.{known_on, text_on, get_on, view_in}
use Rattle.overlay_reading.proofs.Records.{live_view_lem, deleted_reads, unknown_reads}
use Rattle.overlay_reading.proofs.Numbers.{record_get, id_signed}
use Rattle.overlay_reading.proofs.Texts.{text_is, text_bytes, text_missing}
use Rattle.reader.proofs.Steps.{empty_text}
use Rattle.calls.specs.Ask.{Ask, Storage, started, storage_after, ask_fits}
use Rattle.calls.proofs.Reflects.{Reflects}
use Rattle.calls.proofs.Theorems.{reflects_after}
use Rattle.condition.specs.Condition3.{Start}
use Rattle.condition.specs.Views.{seen_in}
use Rattle.condition.proofs.Views.{view_seen}
use Rattle.published.specs.Interner.{resolve}
use Rattle.published.specs.Parse.{CompactDiffOverlay}
use Rattle.refines.specs.Overlays.{fields_of, SameTexts, SameOverlay}
use Rattle.refines.specs.Numbers.{rust_view}
use Rattle.refines.specs.Condition2.{RecordAs, text_read, SameId, SameNumbers, SameHeld, Condition2, SameBytes}
use Rattle.refines.specs.Domain.{no_past}
use Rattle.refines.specs.Calls.{RustHeld, rust_started, domain, tolds, rust_after, rust_tolds}
use Rattle.refines.proofs.Maps.{elem_past}
use Rattle.refines.proofs.Acts.{same_stored}
use Rattle.refines.proofs.Directs.{well_sound}
use Rattle.refines.proofs.ReadBack.{record_read}
use Rattle.refines.proofs.Numbers.{by_row, data_by_id, has_same, deleted_same, ids_by_number, counts, record_by_number}
use Rattle.refines.proofs.Empties.{empty_same}
use Rattle.refines.proofs.Lists.{Alike, lists_agree, started_alike}

module _ (from_utf8 : Bytes → Bool) (texts : (t : Bytes) → is_text t ≡ true → from_utf8 t ≡ true) (refused : Bool) (o : Overlay) (acts : List (Act Bytes)) (held : List Bytes)
    (w : Reflects refused o held acts) (r : CompactDiffOverlay) (same : SameOverlay o r) (k : Kind) where
  -- the record at an offset at which one starts
  offset_read : (at : ℕ) (x : KeptRecord) → record_at at (w.sound.kind_stores k).whole.kept ≡ Some x
      → RecordAs k from_utf8 r.interner.strings (rust_view (kind_store_of k o) (view_in o.texts.strings k (kind_store_of k o) at)) (seen_in o k (view_in o.texts.strings k (kind_store_of k o) at))
  unfolding fits_kept
  offset_read at x h =
      let s = kind_store_of k o in
      let v = (w.sound.kind_stores k).whole in
      let n = o.texts.strings in
      let f = record_passes (fits_kept k) at v.kept x v.fits h in
      let l = record_passes (λ (y : KeptRecord). legal n y.held) at v.kept x v.legals h in
      rw (view_seen refused o held acts w k at x h, view_is n k s.arena s.used v at x h, view_bytes n k s.arena s.used v at x h, ← w.texts) (
        body_kind (text_of (texts_of o.texts)) x.held.body ∙ record_kind n k s (w.sound.kind_stores k) at x h,
        record_read from_utf8 texts (texts_of o.texts) r.interner.strings same.core.texts.resolves (empty_text o ((decides o w.bytes).1 w.sound)).0 x.id x.held
            _ (both_right _ _ f) (rw (length_texts o.texts) l),
      )

  -- the record of a live row
  row_read : (id : ℤ) (q : Row) → find (rank id) (rows_in (kind_store_of k o)) ≡ Some q → is_live q.offset ≡ true
      → RecordAs k from_utf8 r.interner.strings (rust_view (kind_store_of k o) (view_in o.texts.strings k (kind_store_of k o) q.offset)) (seen_in o k (view_in o.texts.strings k (kind_store_of k o) q.offset))
  row_read id q e t =
      let s = w.sound.kind_stores k in
      let x = row_starts s.whole.kept q (find_passes (sound_row s.whole.kept) (rank id) (rows_in (kind_store_of k o)) q s.rows e) t in
      offset_read q.offset x.0 x.1.0

  id_read : (id : ℤ) → SFits w64 id → RecordAs k from_utf8 r.interner.strings (rust_view (kind_store_of k o) (get_on k id o)) (seen_in o k (get_on k id o))
  id_read id f =
      by_row o w.bytes w.sound r k (same.core.kinds k) id f
      (λ q e t. rw (live_view_lem o w.bytes w.sound k id f q e t) (row_read id q e t))
      (λ q e t. rw (deleted_reads o w.bytes w.sound k id f q e t).1.1 tt)
      (λ e. rw (unknown_reads o w.bytes w.sound k id f e).1.1 tt)

  same_id : (id : ℤ) → SFits w64 id → SameId from_utf8 o r k id
  unfolding known_on
  same_id id f =
      let s = same.core.kinds k in
      record {
        live = has_same o w.bytes w.sound r k s id f;
        deleted = deleted_same o w.bytes w.sound r k s id f;
        read = rw (data_by_id o w.bytes w.sound r k s id f) (id_read id f);
        viewed = data_by_id o w.bytes w.sound r k s id f;
        floor = s.floors id f;
        known = rw ((decides o w.bytes).1 w.sound, same_stored k (kind_store_of k o) (fields_of k r) (well_sound o w.sound w.bytes k) s id f);
      }

  same_numbers : SameNumbers from_utf8 o r k
  unfolding is_rank
  same_numbers =
      let s = same.core.kinds k in
      record {
        count = counts o w.bytes w.sound w.ranks r k s;
        ids = ids_by_number o w.bytes w.sound w.ranks r k s;
        viewed = record_by_number o w.bytes w.sound w.ranks r k s;
        read = λ n id e.
            rw (record_by_number o w.bytes w.sound w.ranks r k s n, record_get o w.bytes w.sound k (w.ranks.rows k) n id e)
            (id_read (to_z w64 id) (id_signed o w.bytes w.sound k Live (w.ranks.rows k) n id e));
      }

-- a text by its handle
text_same : (o : Overlay) → InBytes o → Sound o → (r : CompactDiffOverlay) → SameTexts (texts_of o.texts) r.interner → (h : ℕ) → resolve r.interner.strings h ≡ text_read o (text_on h o)
unfolding resolve
text_same o b w r same h =
    let n = length_texts o.texts in
    by_lt h o.texts.strings
    (λ l. rw (text_is o b w h l, text_bytes o b w h l) (same.resolves h (omega arith)))
    (λ l. rw ((text_missing o b w h).1 l, elem_past r.interner.strings.table h (omega (arith, same.count, n))))

-- what stays the same of a reader, an overlay and its records, from what is the same of the bytes
module _ (from_utf8 : Bytes → Bool) (texts : (t : Bytes) → is_text t ≡ true → from_utf8 t ≡ true) (refused : Bool) (l : Storage) (held : List Bytes) (acts : List (Act Bytes)) where
  pub alike_held : Reflects refused l.overlay held acts → (r : RustHeld) → Alike l r → SameHeld from_utf8 l r
  alike_held w r h =
      record {
        ids = same_id from_utf8 texts refused l.overlay acts held w r.overlay h.overlay;
        numbers = same_numbers from_utf8 texts refused l.overlay acts held w r.overlay h.overlay;
        empty = empty_same l.overlay w.bytes w.sound w.ranks r.overlay h.overlay.core.kinds;
        texts = text_same l.overlay w.bytes w.sound r.overlay h.overlay.core.texts;
        handles = h.overlay.core.texts.lookup;
        setting = h.overlay.core.allows;
        readers = h.readers;
      }

module _ (setting : ℕ) (o : Overlay) (ps : ℕ → Bytes) (start : Start o ps) (cs : List Ask) (given : all ask_fits cs ≡ true) where
  agree : (rust_tolds (rust_started setting) (domain no_past (started setting o ps) cs) ≡ tolds no_past (started setting o ps) cs) × Alike (storage_after setting o ps cs) (rust_after (rust_started setting) (domain no_past (started setting o ps) cs))
  agree = lists_agree cs no_past (started setting o ps) (rust_started setting) (started_alike setting o ps start) (λ n. (refl, refl)) given

  -- Condition 2. No bound on the list, none on the readers that it names; whatever std::str::from_utf8 takes besides what is text here.
  pub condition_2 : (from_utf8 : Bytes → Bool) → ((t : Bytes) → is_text t ≡ true → from_utf8 t ≡ true) → Condition2 setting o ps cs from_utf8
  condition_2 from_utf8 texts =
      record {
        told = agree.0;
        same = alike_held from_utf8 texts _ _ _ _ (reflects_after setting o start.sizes start.bytes ps start.parts cs given) _ agree.1;
      }

  -- and byte by byte
  pub same_bytes : SameBytes setting o ps cs
  same_bytes = record { overlay = agree.1.overlay }
