-- T6, up to the view that is returned: after any list of calls, whatever its settings, a view reads as the record of the last accepted act on its id.
use Rattle.std.specs.Prelude.{None, Option, Some}
use Prim.Native.Nat.{ℕ, ◌<◌}
use mathlib.Core.Path.{◌≡◌, refl, sym, ◌∙◌, ap, subst}
use mathlib.Core.Bool.{Bool, true}
use mathlib.Core.List.{List, [], append-nil}
use lib.IntN.{ℤ}
use mir.Syntax.{w64}
use mir.Val.{SFits, to_z}
use mir.Facts.{Fits-of_lt, sfits_to_z}
use Rattle.base.specs.Bytes.{Bytes, all}
use Rattle.base.proofs.Split.{by_bool, both_left, both_right, both_of}
use Rattle.kind.specs.declared.Kind.{Kind}
use Rattle.osm_id.specs.Order.{rank, id_of}
use Rattle.osm_id.proofs.Orders.{id_rank}
use Rattle.interner.specs.Texts.{text_of}
use Rattle.interner.specs.Sound.{texts_of}
use Rattle.model.specs.Record.{kind_of}
use Rattle.model.specs.Act.{Act}
use Rattle.model.specs.Swap.{swap_record}
use Rattle.compact.specs.Cut.{KeptRecord}
use Rattle.compact.specs.Fits.{fits_kept}
use Rattle.compact.specs.Legal.{legal}
use Rattle.compact.specs.View.{read_record}
use Rattle.compact.proofs.Back.{read_record_lem}
use Rattle.compact_legal.specs.Whole.{kept_bytes, record_at}
use Rattle.compact_legal.proofs.Starts.{record_passes}
use Rattle.kind_table.specs.Rows.{find}
use Rattle.kind_table.specs.declared.Row.{Row}
use Rattle.kind_table.proofs.Maps.{find_rank, find_passes}
use Rattle.kind_store.specs.KindStore.{is_live}
use Rattle.kind_store.specs.WellFormed.{rows_in}
use Rattle.kind_sound.specs.Sound.{sound_row}
use Rattle.kind_reading.specs.declared.Side.TheVariants.{Live}
use Rattle.kind_reading.proofs.Views.{view_is, view_bytes}
use Rattle.overlay.specs.Overlay.{Overlay, kind_store_of}
use Rattle.overlay.proofs.Decides.{decides}
use Rattle.overlay_reading.specs.Reading.{view_in, known_on}
use Rattle.overlay_reading.proofs.Records.{live_view_lem, live_reads, deleted_reads, unknown_reads}
use Rattle.overlay_reading.proofs.Numbers.{id_signed, record_get}
use Rattle.overlay_reading.proofs.Texts.{text_is, text_bytes}
use Rattle.reader.proofs.Texts.{legal_agree}
use Rattle.listing_page.specs.Summary as Summary
use Rattle.listing.specs.Known.{last_in}
use Rattle.listing.specs.Table.{is_rank}
use Rattle.listing.proofs.Rows.{row_starts, record_read, record_kind}
use Rattle.acts.specs.Call.{acts_of}
use Rattle.calls.specs.Ask.{Ask, ask_fits, refusing, storage_after, replies}
use Rattle.calls.proofs.Reflects.{Reflects}
use Rattle.calls.proofs.Theorems.{reflects_after}
use Rattle.condition.specs.Condition3.{Start}
use Rattle.condition.specs.Views.{seen, text_seen, seen_in, ShowsLeft, ReadsLast, ReadsHighest}

-- the readers and steps read a kept record back
kept_read : (strings : ℕ) (k : Kind) (x : KeptRecord) → fits_kept k x ≡ true → legal strings x.held ≡ true → kind_of x.held.body ≡ k → read_record k (kept_bytes x) ≡ Some x
unfolding fits_kept legal
kept_read strings k x f l e = rw (← e) (rw append-nil at (read_record_lem x.id x.held [] (both_right _ _ f) (both_left _ _ (both_right _ _ l))).whole)

module _ (refused : Bool) (o : Overlay) (held : List Bytes) (acts : List (Act Bytes)) (w : Reflects refused o held acts) where
  -- a held handle's text is what `text` shows
  text_seen_lem : (h : ℕ) → h < o.texts.strings → text_of (texts_of o.texts) h ≡ text_seen o h
  unfolding text_seen
  text_seen_lem h l = rw (text_is o w.bytes w.sound h l) (sym (text_bytes o w.bytes w.sound h l))

  module _ (k : Kind) where
    -- the view of an offset at which a record starts
    pub view_seen : (at : ℕ) (x : KeptRecord) → record_at at (w.sound.kind_stores k).whole.kept ≡ Some x
        → seen_in o k (view_in o.texts.strings k (kind_store_of k o) at) ≡ seen x.id (swap_record (text_of held) x.held)
    view_seen at x h =
        let s = kind_store_of k o in
        let v = (w.sound.kind_stores k).whole in
        let n = o.texts.strings in
        let f = record_passes (fits_kept k) at v.kept x v.fits h in
        let l = record_passes (λ (y : KeptRecord). legal n y.held) at v.kept x v.legals h in
        rw (
          view_is n k s.arena s.used v at x h,
          view_bytes n k s.arena s.used v at x h,
          kept_read n k x f l (record_kind n k s (w.sound.kind_stores k) at x h),
          ← w.texts,
          legal_agree n (text_of (texts_of o.texts)) (text_seen o) text_seen_lem x.held l,
        )

    -- what is shown of an id is what the overlay tells of it
    told_shows : (id : ℤ) → SFits w64 id → ShowsLeft o k id (last_in k (kind_store_of k o) (text_of held) (find (rank id) (rows_in (kind_store_of k o))))
    told_shows id f = go (find (rank id) (rows_in (kind_store_of k o))) refl
      where
        go : (q : Option Row) → find (rank id) (rows_in (kind_store_of k o)) ≡ q → ShowsLeft o k id (last_in k (kind_store_of k o) (text_of held) q)
        go None e =
            let x = unknown_reads o w.bytes w.sound k id f e in
            record { get = ap (seen_in o k) x.1.1; has = x.0; deleted = x.1.0 }
        go (Some r) e =
            by_bool (is_live r.offset)
            (λ t.
            let sw = w.sound.kind_stores k in
            let x = row_starts sw.whole.kept r (find_passes (sound_row sw.whole.kept) (rank id) (rows_in (kind_store_of k o)) r sw.rows e) t in
            let i : x.0.id ≡ id = x.1.1 ∙ (ap id_of (find_rank (rank id) (rows_in (kind_store_of k o)) r e) ∙ id_rank f) in
            let y = live_reads o w.bytes w.sound k id f r e t in
            rw (t, record_read o.texts.strings k (kind_store_of k o) sw r.offset x.0 x.1.0) (record {
              get = rw (live_view_lem o w.bytes w.sound k id f r e t, view_seen r.offset x.0 x.1.0, i);
              has = y.0;
              deleted = y.1.0;
            }))
            (λ t. let x = deleted_reads o w.bytes w.sound k id f r e t in rw t (record { get = ap (seen_in o k) x.1.1; has = x.0; deleted = x.1.0 }))

    pub shows_left : (id : ℤ) → SFits w64 id → ShowsLeft o k id (Summary.known acts (record { kind = k; id = id })).last
    shows_left id f = subst (ShowsLeft o k id) ((w.tells k).last id f) (told_shows id f)

  pub reads_reflect : ReadsLast o acts
  unfolding is_rank
  reads_reflect =
      record {
        asked = λ k id f. shows_left k (to_z w64 id) (sfits_to_z {w = w64} (Fits-of_lt f));
        numbered = λ k n id e.
            ap (seen_in o k) (record_get o w.bytes w.sound k (w.ranks.rows k) n id e)
            ∙ (shows_left k (to_z w64 id) (id_signed o w.bytes w.sound k Live (w.ranks.rows k) n id e)).get;
      }

  pub highest_reflect : refused ≡ true → ReadsHighest o acts
  unfolding known_on
  highest_reflect z k id f = rw ((decides o w.bytes).1 w.sound, (w.tells k).high z (to_z w64 id) (sfits_to_z {w = w64} (Fits-of_lt f)))

-- after any list of calls
pub reads_last : (setting : ℕ) (o : Overlay) (ps : ℕ → Bytes) → Start o ps → (cs : List Ask) → all ask_fits cs ≡ true
    → ReadsLast (storage_after setting o ps cs).overlay (acts_of (replies setting o ps cs))
reads_last setting o ps s cs f = reads_reflect _ _ _ _ (reflects_after setting o s.sizes s.bytes ps s.parts cs f)

-- after one that refuses regression throughout
pub reads_highest : (o : Overlay) (ps : ℕ → Bytes) → Start o ps → (cs : List Ask) → all ask_fits cs ≡ true → all refusing cs ≡ true
    → ReadsHighest (storage_after 0 o ps cs).overlay (acts_of (replies 0 o ps cs))
reads_highest o ps s cs f r = highest_reflect _ _ _ _ (reflects_after 0 o s.sizes s.bytes ps s.parts cs f) (both_of refl r)
